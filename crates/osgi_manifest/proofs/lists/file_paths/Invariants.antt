-- The paths so far go on with those of the files that are left.
use Rattle.std.proofs.Common.{◌≡◌, ◌++◌, drop}
use Rattle.std.specs.Prelude.{map}
use Rattle.osgi_base.specs.declared.folder.File.{File}
use Rattle.osgi_manifest.proofs.lists.file_paths.Given as goal

abbrev pub invariant-loop-file : goal.invariant-loop-file
invariant-loop-file l = l.paths ++ map (λ (f : File). f.path) (drop l.file-index l.file-items) ≡ map (λ (f : File). f.path) l.folder.files
