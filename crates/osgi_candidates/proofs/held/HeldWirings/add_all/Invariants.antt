-- The wirings so far are held, and those before them.
use Rattle.std.proofs.Common.{List, ◌++◌, take}
use Rattle.osgi_candidates.specs.computed.Holding.{AreHeld}
use Rattle.osgi_candidates.proofs.held.HeldWirings.add_all.Given as goal
use Rattle.osgi_world.specs.declared.wiring.Wiring.{Wiring}

abbrev pub invariant-loop-wiring : goal.invariant-loop-wiring
invariant-loop-wiring l = (W : List Wiring) → AreHeld l.known W l.initial.self → AreHeld l.known (W ++ take l.wiring-index l.wirings) l.self
