-- No fragment that is attached to one of the members so far is a current singleton.
use Rattle.std.proofs.Common.{take}
use Rattle.osgi_base.specs.declared.ids.RevisionId.{RevisionId}
use Rattle.osgi_resolver_hopeless.specs.computed.Rivals.{IsCurrentSingleton}
use Rattle.osgi_resolver_path.specs.Standing.{IsProblemOf, made}
use Rattle.osgi_world.specs.DueDecisions.{fragments_of, members}
use Rattle.osgi_world.specs.Lists.{In}
use Rattle.osgi_world.specs.declared.problem.Problem.{Problem}
use Rattle.osgi_resolver_hopeless.proofs.rivals.is_one_attached.Given as goal

abbrev pub invariant-loop-host : goal.invariant-loop-host
invariant-loop-host l =
    (P : Problem) → IsProblemOf l.path P → ((m : RevisionId) → In m l.hosts → In m (members P (made P l.path))) →
    (m : RevisionId) → In m (take l.host-index l.hosts) → (r : RevisionId) → In r (fragments_of P (made P l.path) m) → ¬ IsCurrentSingleton l.path.world.known r
