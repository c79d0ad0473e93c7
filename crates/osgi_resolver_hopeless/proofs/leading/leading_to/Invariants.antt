-- What was found leads to the host, and who is wired to the first ones of it was found.
use Rattle.std.proofs.Common.{◌-◌, ◌^◌}
use Rattle.osgi_resolver_path.specs.Standing.{IsProblemOf, made}
use Rattle.osgi_world.specs.declared.problem.Problem.{Problem}
use Rattle.osgi_resolver_hopeless.proofs.Worklist.{IsWorklist}
use Rattle.osgi_resolver_hopeless.proofs.leading.leading_to.Given as goal

abbrev pub invariant-loop-next : goal.invariant-loop-next
invariant-loop-next l = (P : Problem) → IsProblemOf l.path P → IsWorklist P (made P l.path) l.fn.host l.found l.next

abbrev pub decreases-loop-next : goal.decreases-loop-next
decreases-loop-next l = 2 ^ 64 - l.next
