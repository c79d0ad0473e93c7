-- None of the wires so far is lost at the host.
use Rattle.std.proofs.Common.{take}
use Rattle.osgi_resolver_hopeless.specs.computed.Clashing.{AreWires, IsLostAt}
use Rattle.osgi_resolver_path.specs.Standing.{IsProblemOf, made}
use Rattle.osgi_resolver_path.specs.Wires.{wired_by, wired_in}
use Rattle.osgi_resolver_path.specs.declared.course.Mark.{Mark}
use Rattle.osgi_resolver_path.specs.declared.wired.Wired.{Wired}
use Rattle.osgi_world.specs.Lists.{In}
use Rattle.osgi_world.specs.declared.problem.Problem.{Problem}
use Rattle.osgi_resolver_hopeless.proofs.offer.is_one_lost_at.Given as goal

abbrev pub invariant-loop-mark : goal.invariant-loop-mark
invariant-loop-mark l =
    (P : Problem) → IsProblemOf l.path P → AreWires P (made P l.path) (wired_in l.marks) → (m : Mark) → In m (take l.mark-index l.marks) → (w : Wired) → In w (wired_by m.step) →
    ¬ IsLostAt P (made P l.path) l.host w.wire
