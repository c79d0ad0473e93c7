-- The reasons that the last decision of a search can have given.
use Rattle.std.specs.Prelude.{◌≡◌, ◌⊎◌, Some}
use Rattle.osgi_base.specs.declared.ids.RevisionId.{RevisionId}
use Rattle.osgi_resolver_decisions.specs.DecisionOf.{decision_of}
use Rattle.osgi_resolver_path.specs.Last.{IsLast}
use Rattle.osgi_resolver_path.specs.Standing.{Standing, made}
use Rattle.osgi_resolver_path.specs.declared.wired.Wired.{Wired}
use Rattle.osgi_world.specs.Decisions.{host}
use Rattle.osgi_world.specs.DueDecisions.{members}
use Rattle.osgi_world.specs.Lists.{In}
use Rattle.osgi_world.specs.declared.problem.Problem.{Problem}
use Rattle.osgi_resolver_hopeless.specs.computed.Clashing.{HasClashAt, HasLostAt, IsLostBy}
use Rattle.osgi_resolver_hopeless.specs.computed.Rivals.{HasRivals}
use Rattle.osgi_resolver_hopeless.specs.computed.Stuck.{IsStuckBy}
use Rattle.osgi_resolver_path.specs.declared.last.Last.{Last}

-- the host of the decision, or who joined by it, is stuck; two providers count only of the package that a wire which the decision
-- made is for
pub record HasTouchedStuck (P : Problem) (s : Standing) (last : Last) : Type 0 where
  pub member : RevisionId
  pub is_member : In member (members P (made P s))
  pub touched : (member ≡ host (decision_of last.decision)) ⊎ (last.joined ≡ Some member)
  pub stuck : IsStuckBy P (made P s) member last.wired

-- r joined by the decision, or is the fragment that it attached
abbrev pub IsNewBy : Last → RevisionId → Type 0
IsNewBy last r = (last.joined ≡ Some r) ⊎ (last.fragment ≡ Some r)

-- two rivals are in use, and one of them is new by the decision, which is the last
pub record HasNewRivals (P : Problem) (s : Standing) (last : Last) : Type 0 where
  pub is_last : IsLast P s last
  pub rivals : HasRivals P (made P s)
  pub newly : IsNewBy last rivals.new ⊎ IsNewBy last rivals.other

-- the wire that the decision made goes to a settled provider, which does not have the capability on offer
abbrev pub HasNewLost : Problem → Standing → Last → Type 0
HasNewLost P s last = (w : Wired) × (last.wired ≡ Some w) × IsLostBy P (made P s) w.wire

-- a member that the decision touches is stuck, what it newly uses has a rival, or the wire that it adds is lost
pub data IsAtOnce (P : Problem) (s : Standing) (last : Last) : Type 0 where
  stuck : HasTouchedStuck P s last → IsAtOnce P s last
  rivals : HasNewRivals P s last → IsAtOnce P s last
  lost : HasNewLost P s last → IsAtOnce P s last

-- a member has a wire to a provider that is h or reaches it, is settled, and does not have the capability on offer; or an implied constraint of
-- a member that leads to h, which comes from settled revisions alone and through h, clashes
pub data HasSettledReason (P : Problem) (s : Standing) (h : RevisionId) : Type 0 where
  lost : HasLostAt P (made P s) h → HasSettledReason P s h
  clash : HasClashAt P (made P s) h → HasSettledReason P s h
