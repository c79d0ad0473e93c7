-- None of the wires so far is lost.
use Rattle.std.proofs.Common.{List, take}
use Rattle.osgi_resolver_hopeless.specs.computed.Clashing.{IsLost}
use Rattle.osgi_resolver_path.specs.Wires.{wired_by}
use Rattle.osgi_resolver_path.specs.declared.course.Mark.{Mark}
use Rattle.osgi_resolver_path.specs.declared.wired.Wired.{Wired}
use Rattle.osgi_space_rows.specs.Worlds.{AreRowsIn}
use Rattle.osgi_world.specs.Lists.{In}
use Rattle.osgi_world.specs.declared.wiring.Wiring.{Wiring}
use Rattle.osgi_resolver_hopeless.proofs.offer.is_one_lost.Given as goal

abbrev pub invariant-loop-mark : goal.invariant-loop-mark
invariant-loop-mark l = (W : List Wiring) → AreRowsIn l.rows W → (m : Mark) → In m (take l.mark-index l.marks) → (w : Wired) → In w (wired_by m.step) → ¬ IsLost l.rows.known W l.unsettled w
