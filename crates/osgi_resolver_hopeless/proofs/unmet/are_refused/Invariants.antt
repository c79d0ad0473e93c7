-- The capabilities so far are refused.
use Rattle.std.proofs.Common.{take}
use Rattle.osgi_resolver_hopeless.specs.computed.Stuck.{AreRefused}
use Rattle.osgi_resolver_path.specs.Standing.{IsProblemOf, made}
use Rattle.osgi_world.specs.declared.problem.Problem.{Problem}
use Rattle.osgi_resolver_hopeless.proofs.unmet.are_refused.Given as goal

abbrev pub invariant-loop-capability : goal.invariant-loop-capability
invariant-loop-capability l = (P : Problem) → IsProblemOf l.path P → AreRefused (made P l.path) l.member l.requirement (take l.capability-index l.candidates)
