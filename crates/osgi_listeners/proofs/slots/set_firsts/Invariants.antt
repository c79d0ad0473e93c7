-- Below `at` the places are written.
use Rattle.osgi_listeners.proofs.Loops.{IsFilled}
use Rattle.osgi_listeners.proofs.slots.set_firsts.Given as goal

abbrev pub invariant-loop-at : goal.invariant-loop-at
invariant-loop-at l = IsFilled l.firsts l.turns.entries l.slots l.before l.at
