-- Room is made at the slots so far.
use Rattle.osgi_listeners.proofs.Loops.{IsReserved}
use Rattle.osgi_listeners.proofs.slots.reserve_each.Given as goal

abbrev pub invariant-loop-slot : goal.invariant-loop-slot
invariant-loop-slot l = IsReserved l.events l.fn.slots l.slots l.slot-index
