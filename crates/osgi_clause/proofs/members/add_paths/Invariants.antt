-- The items so far go on with those of the paths that are left.
use Rattle.std.proofs.Common.{◌≡◌, ◌++◌, drop}
use Rattle.std.specs.Prelude.{map}
use Rattle.osgi_clause.proofs.members.add_paths.Given as goal

abbrev pub invariant-loop-path : goal.invariant-loop-path
invariant-loop-path g l = l.items ++ map (g.R.ClauseReader.named l.template) (drop l.path-index l.paths) ≡ l.initial.items ++ map (g.R.ClauseReader.named l.template) l.paths
