-- None of the members so far has two providers of one package.
use Rattle.std.proofs.Common.{take}
use Rattle.osgi_base.specs.declared.ids.RevisionId.{RevisionId}
use Rattle.osgi_resolver_hopeless.specs.computed.Stuck.{TwoProviders}
use Rattle.osgi_resolver_path.specs.Standing.{IsProblemOf, made}
use Rattle.osgi_world.specs.Lists.{In}
use Rattle.osgi_world.specs.Partial.{partial}
use Rattle.osgi_world.specs.declared.problem.Problem.{Problem}
use Rattle.osgi_resolver_hopeless.proofs.stuck.one_has_two_providers.Given as goal

abbrev pub invariant-loop-member : goal.invariant-loop-member
invariant-loop-member l = (P : Problem) → IsProblemOf l.path P → (m : RevisionId) → In m (take l.member-index l.member-items) → ¬ TwoProviders P.world.known (partial P (made P l.path)) m
