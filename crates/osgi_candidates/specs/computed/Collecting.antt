-- Sets of ranked candidates.
use Rattle.std.specs.Prelude.{◌≡◌, ◌↔◌, false, List, Some}
use Rattle.std.specs.BTreeSet.{BTreeSet}
use Rattle.osgi_base.specs.declared.ids.RevisionId.{RevisionId}
use Rattle.osgi_candidates.specs.computed.Fitting.{bare}
use Rattle.osgi_candidates.specs.computed.Ranking.{IsRankOf, capability_of}
use Rattle.osgi_candidates.specs.declared.names.Place.{Place}
use Rattle.osgi_candidates.specs.declared.ranked.Ranked.{Ranked}
use Rattle.osgi_world.specs.Candidates.{IsCandidate, IsPreferred}
use Rattle.osgi_world.specs.Lists.{In, Two}
use Rattle.osgi_world.specs.Lookups.{is_dynamic, requirement_at}
use Rattle.osgi_world.specs.declared.requirement.Requirement.{Requirement}
use Rattle.osgi_world.specs.declared.wiring.CapRef.{CapRef}
use Rattle.osgi_world.specs.declared.wiring.ReqRef.{ReqRef}
use Rattle.osgi_world.specs.declared.world.World.{World}

-- the requirement stands at this place, and is no dynamic import
pub record Asks (w : World) (q : ReqRef) (n : Requirement) : Type 0 where
  pub requirement : requirement_at w.known q ≡ Some n
  pub plain : is_dynamic w.known q ≡ false

-- the list has each candidate once, the preferred first
pub record AreCandidates (w : World) (q : ReqRef) (cs : List CapRef) : Type 0 where
  pub are : (c : CapRef) → In c cs ↔ IsCandidate (bare w) q c
  pub ordered : ¬ Two (λ (c d : CapRef). ¬ IsPreferred (bare w) c d) cs

-- a candidate with its rank
pub record IsGood (w : World) (q : ReqRef) (r : Ranked) : Type 0 where
  pub candidate : IsCandidate (bare w) q (capability_of r)
  pub rank : IsRankOf w (capability_of r) r

abbrev pub AreGood : World → ReqRef → List Ranked → Type 0
AreGood w q rs = (r : Ranked) → In r rs → IsGood w q r

-- the capability is among them
abbrev pub IsStored : List Ranked → CapRef → Type 0
IsStored rs c = (r : Ranked) × In r rs × (capability_of r ≡ c)

-- those of the capabilities that are candidates are there now, and what was there
pub record Extends (w : World) (q : ReqRef) (old new : BTreeSet Ranked) (Tried : CapRef → Type 0) : Type 0 where
  pub good : AreGood w q old.keys → AreGood w q new.keys
  pub kept : (r : Ranked) → In r old.keys → In r new.keys
  pub stored : (c : CapRef) → Tried c → IsCandidate (bare w) q c → IsStored new.keys c

-- all candidates, and nothing else
pub record Collects (w : World) (q : ReqRef) (found : BTreeSet Ranked) : Type 0 where
  pub good : AreGood w q found.keys
  pub all : (c : CapRef) → IsCandidate (bare w) q c → IsStored found.keys c

-- the capability at the place
abbrev pub IsAt : Place → CapRef → Type 0
IsAt p c = (c.owner ≡ p.owner) × (c.index ≡ p.index)

-- that one, as one of the hosts has it
abbrev pub IsAtOf : Place → List RevisionId → CapRef → Type 0
IsAtOf p hosts c = In c.provider hosts × IsAt p c

-- that one, as the provider has it
abbrev pub IsOf : Place → RevisionId → CapRef → Type 0
IsOf p provider c = (c.provider ≡ provider) × IsAt p c

-- the capability at one of the places
abbrev pub IsAtSome : List Place → CapRef → Type 0
IsAtSome places c = (p : Place) × In p places × IsAt p c
