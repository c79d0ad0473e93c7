-- The texts are the same where what is left of them is.
use Rattle.std.proofs.Common.{◌≡◌, length}
use Rattle.std.specs.Str.{bytes_eq}
use Rattle.osgi_model.specs.Matching.{approx_form}
use Rattle.osgi_filter.proofs.approx.is_approx.Given as goal

abbrev pub invariant-loop-x : goal.invariant-loop-x
invariant-loop-x l = bytes_eq (approx_form l.left) (approx_form l.right) ≡ bytes_eq (approx_form l.fn.a) (approx_form l.fn.b)

abbrev pub decreases-loop-x : goal.decreases-loop-x
decreases-loop-x l = length l.left
