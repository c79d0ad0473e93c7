-- Of the members so far all that are not settled are in the set.
use Rattle.std.proofs.Common.{take}
use Rattle.osgi_resolver_hopeless.proofs.Settling.{Covers}
use Rattle.osgi_resolver_path.specs.Standing.{IsProblemOf, made}
use Rattle.osgi_world.specs.declared.problem.Problem.{Problem}
use Rattle.osgi_resolver_hopeless.proofs.settled.unsettled.Given as goal

abbrev pub invariant-loop-member : goal.invariant-loop-member
invariant-loop-member l = (P : Problem) → IsProblemOf l.path P → Covers P (made P l.path) l.set (take l.member-index l.member-items)
