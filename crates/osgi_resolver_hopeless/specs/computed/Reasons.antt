-- The reasons for which what is decided is hopeless, as they are tested.
use Rattle.osgi_base.specs.declared.ids.RevisionId.{RevisionId}
use Rattle.osgi_resolver_hopeless.specs.computed.Clashing.{HasClash, HasLost}
use Rattle.osgi_resolver_hopeless.specs.computed.Rivals.{HasRivals}
use Rattle.osgi_resolver_hopeless.specs.computed.Stuck.{IsStuck}
use Rattle.osgi_world.specs.Decisions.{Made}
use Rattle.osgi_world.specs.DueDecisions.{members}
use Rattle.osgi_world.specs.Lists.{In}
use Rattle.osgi_world.specs.declared.problem.Problem.{Problem}

-- a member is stuck
abbrev pub SomeStuck : Problem → Made → Type 0
SomeStuck P D = (m : RevisionId) × In m (members P D) × IsStuck P D m

-- a member is stuck, rivals are in use, a settled provider does not have on offer what a wire takes, or settled constraints clash
pub data Reason (P : Problem) (D : Made) : Type 0 where
  stuck : SomeStuck P D → Reason P D
  rivals : HasRivals P D → Reason P D
  lost : HasLost P D → Reason P D
  clash : HasClash P D → Reason P D
