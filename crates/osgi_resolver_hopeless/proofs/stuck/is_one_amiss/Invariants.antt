-- None of the members so far is amiss.
use Rattle.std.proofs.Common.{take}
use Rattle.osgi_base.specs.declared.ids.RevisionId.{RevisionId}
use Rattle.osgi_resolver_hopeless.specs.computed.Stuck.{IsAmiss}
use Rattle.osgi_resolver_path.specs.Standing.{IsProblemOf, made}
use Rattle.osgi_world.specs.Lists.{In}
use Rattle.osgi_world.specs.declared.problem.Problem.{Problem}
use Rattle.osgi_resolver_hopeless.proofs.stuck.is_one_amiss.Given as goal

abbrev pub invariant-loop-member : goal.invariant-loop-member
invariant-loop-member l = (P : Problem) → IsProblemOf l.path P → (m : RevisionId) → In m (take l.member-index l.member-items) → ¬ IsAmiss P (made P l.path) m
