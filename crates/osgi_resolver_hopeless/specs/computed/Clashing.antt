-- What is settled and wrong: wires to what is not on offer, and constraints that clash.
use Rattle.std.specs.Prelude.{◌≡◌, ◌↔◌, ℕ, ◌⊎◌, List}
use Rattle.osgi_base.specs.declared.ids.RevisionId.{RevisionId}
use Rattle.osgi_resolver_path.specs.declared.wired.Wired.{Wired}
use Rattle.osgi_world.specs.Decisions.{Made}
use Rattle.osgi_world.specs.DueDecisions.{members}
use Rattle.osgi_world.specs.Hopeless.{IsSettled}
use Rattle.osgi_world.specs.Lists.{In}
use Rattle.osgi_world.specs.Partial.{partial}
use Rattle.osgi_world.specs.Sources.{Clash, Implied}
use Rattle.osgi_world.specs.Wirings.{HasWire, OnOffer}
use Rattle.osgi_world.specs.declared.problem.Problem.{Problem}
use Rattle.osgi_world.specs.declared.wiring.Wire.{Wire}
use Rattle.osgi_world.specs.declared.wiring.Wiring.{Wiring}
use Rattle.osgi_world.specs.declared.world.Known.{Known}
use Rattle.osgi_resolver_theory.specs.Reasons.{LeadsTo, Reaches}
use Rattle.osgi_space_sources.specs.computed.Clashes.{BreaksUses}
use Rattle.osgi_space_rows.specs.Rows.{RowLists, Requires}
use Rattle.osgi_resolver_hopeless.specs.computed.Open.{Has}
use Rattle.osgi_resolver_hopeless.specs.computed.Through.{ComesThrough}

-- the provider is not in the set, and does not have the capability on offer
abbrev pub IsLost : List Known → List Wiring → List ℕ → Wired → Type 0
IsLost K W unsettled w = (¬ Has unsettled w.wire.capability.provider.0) × ¬ OnOffer K W w.wire.capability

-- the provider is settled, and does not have the capability on offer
abbrev pub IsLostBy : Problem → Made → Wire → Type 0
IsLostBy P D x = IsSettled P D x.capability.provider × ¬ OnOffer P.world.known (partial P D) x.capability

-- the provider of a member's wire is settled, and does not have the capability on offer
pub record HasLost (P : Problem) (D : Made) : Type 0 where
  pub member : RevisionId
  pub wire : Wire
  pub is_member : In member (members P D)
  pub has : HasWire (partial P D) member wire
  pub settled : IsSettled P D wire.capability.provider
  pub lost : ¬ OnOffer P.world.known (partial P D) wire.capability

-- the provider is the host, or has a bundle wire
abbrev pub MayReach : RowLists → Wired → RevisionId → Type 0
MayReach R w h = (w.wire.capability.provider.0 ≡ h.0) ⊎ ((c : ℕ) × Requires R w.wire.capability.provider.0 c)

-- the provider is the host, or reaches it; it is settled, and does not have the capability on offer
abbrev pub IsLostAt : Problem → Made → RevisionId → Wire → Type 0
IsLostAt P D h x = Reaches P.world.known (partial P D) x.capability.provider h × IsLostBy P D x

-- these are the wires of members
abbrev pub AreWires : Problem → Made → List Wired → Type 0
AreWires P D wires = (w : Wired) → In w wires ↔ (In w.revision (members P D) × HasWire (partial P D) w.revision w.wire)

-- a member has a wire to a provider that is h or reaches it, is settled, and does not have the capability on offer
pub record HasLostAt (P : Problem) (D : Made) (h : RevisionId) : Type 0 where
  pub lost : HasLost P D
  pub reaches : Reaches P.world.known (partial P D) lost.wire.capability.provider h

-- a member's implied constraint that comes from settled revisions alone clashes
pub record HasClash (P : Problem) (D : Made) : Type 0 where
  pub member : RevisionId
  pub seen_by : RevisionId
  pub used : List ℕ
  pub is_member : In member (members P D)
  pub implied : Implied P.world.known (partial P D) (IsSettled P D) member seen_by used
  pub clash : Clash P.world.known (partial P D) member seen_by used

-- a member that leads to h has one that comes through h
pub record HasClashAt (P : Problem) (D : Made) (h : RevisionId) : Type 0 where
  pub clash : HasClash P D
  pub leads : LeadsTo P D clash.member h
  pub through : ComesThrough P D h clash.member clash.seen_by clash.used

-- r has a violated constraint that comes from revisions outside the set alone
abbrev pub IsBroken : RowLists → List ℕ → ℕ → Type 0
IsBroken R unsettled r = BreaksUses R (λ x. ¬ Has unsettled x) r
