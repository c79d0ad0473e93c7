-- What is sought is among the files that are left.
use Rattle.std.proofs.Common.{◌≡◌, drop}
use Rattle.std.specs.Prelude.{find}
use Rattle.std.specs.Str.{bytes_eq}
use Rattle.osgi_base.specs.declared.folder.File.{File}
use Rattle.osgi_manifest.proofs.files.file_at.Given as goal

abbrev pub invariant-loop-file : goal.invariant-loop-file
invariant-loop-file l = find (λ (f : File). bytes_eq f.path l.path) l.folder.files ≡ find (λ (f : File). bytes_eq f.path l.path) (drop l.file-index l.file-items)
