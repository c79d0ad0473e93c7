-- The path so far goes on with the bytes that are left.
use Rattle.std.proofs.Common.{◌≡◌, ◌++◌, drop}
use Rattle.std.specs.Prelude.{cond, ◌==◌, map}
use Rattle.osgi_manifest.proofs.activator.class_file.Given as goal

abbrev pub invariant-loop-b : goal.invariant-loop-b
invariant-loop-b l = l.path.items ++ map (λ b. cond (b == 46) 47 b) (drop l.b-index l.class) ≡ map (λ b. cond (b == 46) 47 b) l.class
