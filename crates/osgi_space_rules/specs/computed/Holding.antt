-- The rules that one wire and one wiring keep.
use Rattle.std.specs.Prelude.{◌≡◌, ◌≢◌, ◌⊎◌, ℕ, ◌<◌, IsTrue, List}
use Rattle.osgi_base.specs.declared.ids.RevisionId.{RevisionId}
use Rattle.osgi_space_rules.specs.computed.Growing.{Each}
use Rattle.osgi_space_rules.specs.computed.Indexed.{IsWired}
use Rattle.osgi_world.specs.Consistency.{AreDouble}
use Rattle.osgi_world.specs.Lists.{Two}
use Rattle.osgi_world.specs.Lookups.{is_dynamic, is_effective, is_host_of, requirement_count, symbolic_name, IsNeeded}
use Rattle.osgi_world.specs.Wirings.{HasRequirement, InForce, IsBundleWire, OnOffer}
use Rattle.osgi_world.specs.declared.wiring.ReqRef.{ReqRef}
use Rattle.osgi_world.specs.declared.wiring.Wire.{Wire}
use Rattle.osgi_world.specs.declared.wiring.Wiring.{Wiring}
use Rattle.osgi_world.specs.declared.world.Known.{Known}

abbrev pub IsAsked : List Known → List Wiring → RevisionId → ReqRef → Type 0
IsAsked K W r q = (HasRequirement K W r q × IsTrue (is_effective K q)) ⊎ (q.owner ≡ r) × IsTrue (is_dynamic K q)

-- the wire of r keeps the rules of a wire
pub record WireHolds (K : List Known) (W : List Wiring) (r : RevisionId) (w : Wire) : Type 0 where
  pub asked : IsAsked K W r w.requirement
  pub provided : InForce W w.capability.provider
  pub another : IsBundleWire K w → w.capability.provider ≢ w.requirement.owner
  pub offered : OnOffer K W w.capability

abbrev pub requirement_ref : RevisionId → ℕ → ReqRef
requirement_ref owner n = record { owner = owner; index = n }

-- r has a wire for each mandatory effective requirement of the owner
abbrev pub IsMet : List Known → List Wiring → RevisionId → RevisionId → Type 0
IsMet K W r owner = (n : ℕ) → n < requirement_count K owner → IsNeeded K (requirement_ref owner n) → IsWired W r (requirement_ref owner n)

-- and of the payload
pub record IsPayloadMet (K : List Known) (W : List Wiring) (g : Wiring) : Type 0 where
  pub own : IsMet K W g.revision g.revision
  pub fragments : Each (IsMet K W g.revision) g.fragments

-- the wiring keeps the rules of a wiring
pub record WiringHolds (K : List Known) (W : List Wiring) (g : Wiring) : Type 0 where
  pub met : IsPayloadMet K W g
  pub matching : Each (λ f. IsTrue (is_host_of K f g.revision)) g.fragments
  pub single : ¬ Two (AreDouble K) g.wires
  pub one_version : ¬ Two (λ (e f : RevisionId). symbolic_name K e ≡ symbolic_name K f) g.fragments
  pub wires : Each (WireHolds K W g.revision) g.wires
