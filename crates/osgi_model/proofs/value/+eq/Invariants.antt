-- The values that are left decide.
use Rattle.std.proofs.Common.{◌≡◌, drop, map}
use Rattle.osgi_model.specs.Comparing.{each_passes, value_eq}
use Rattle.osgi_model.proofs.value.+eq.Given as goal

abbrev pub invariant-are_equal-loop-one : goal.invariant-are_equal-loop-one
invariant-are_equal-loop-one l = each_passes (map value_eq (drop l.one-index l.ones)) l.left ≡ each_passes (map value_eq l.ones) l.fn.others
