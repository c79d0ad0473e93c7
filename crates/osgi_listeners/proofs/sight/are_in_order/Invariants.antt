-- The sights before `at` stand in order.
use Rattle.osgi_listeners.proofs.InOrder.{Stand}
use Rattle.osgi_listeners.proofs.sight.are_in_order.Given as goal

abbrev pub invariant-loop-at : goal.invariant-loop-at
invariant-loop-at l = Stand l.sights l.at
