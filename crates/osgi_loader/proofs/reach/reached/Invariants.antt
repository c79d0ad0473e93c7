-- What was found is reached, and what the first ones of it reexport was found.
use Rattle.osgi_loader.proofs.Reached.{IsWorklist}
use Rattle.osgi_loader.proofs.reach.reached.Given as goal

abbrev pub invariant-loop-next : goal.invariant-loop-next
invariant-loop-next l = IsWorklist l.wirings.world l.starts l.found.keys l.next
