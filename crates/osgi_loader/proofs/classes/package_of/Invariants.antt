-- The end is that of the package of the bytes so far.
use Rattle.std.proofs.Common.{◌≡◌, ◌≤◌, [], take}
use Rattle.std.specs.Prelude.{unwrap_or}
use Rattle.osgi_ops.specs.Assignable.{before_last_dot}
use Rattle.osgi_loader.proofs.classes.package_of.Given as goal

abbrev pub invariant-loop-place : goal.invariant-loop-place
invariant-loop-place l = record {
  within : l.end ≤ l.place;
  is : unwrap_or (before_last_dot (take l.place l.class)) [] ≡ take l.end l.class;
}
