-- What was passed is white space.
use Rattle.std.proofs.Common.{◌≡◌, ◌≤◌, length}
use Rattle.osgi_model.specs.Matching.{approx_form}
use Rattle.osgi_filter.proofs.approx.next.Given as goal

abbrev pub invariant-loop-rest : goal.invariant-loop-rest
invariant-loop-rest l = record { same_text : approx_form l.rest ≡ approx_form l.fn.bytes; less : length l.rest ≤ length l.fn.bytes }

abbrev pub decreases-loop-rest : goal.decreases-loop-rest
decreases-loop-rest l = length l.rest
