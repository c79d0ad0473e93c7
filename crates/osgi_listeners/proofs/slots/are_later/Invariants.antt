-- The place is later than all that waits at the slots so far.
use Rattle.std.proofs.Common.{ℕ, ◌<◌, get_or}
use Rattle.osgi_listeners.specs.Rows.{IsLater, Row}
use Rattle.osgi_listeners.proofs.slots.are_later.Given as goal

abbrev pub invariant-loop-slot : goal.invariant-loop-slot
invariant-loop-slot l = (k : ℕ) (d : Row) → k < l.slot-index → IsLater l.place (get_or l.slots k d)
