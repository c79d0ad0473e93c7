-- What is tested of a capability, for it to be a candidate.
use Rattle.std.specs.Prelude.{◌≡◌, ◌≢◌, ◌⊎◌, ℕ, ◌<◌, IsTrue, List, [], Some}
use Rattle.osgi_candidates.specs.computed.Holding.{HasFragment, HasPackage}
use Rattle.osgi_candidates.specs.declared.held.Held.{Held}
use Rattle.osgi_world.specs.Candidates.{AreOrdered, matching}
use Rattle.osgi_world.specs.Consistency.{Consistent}
use Rattle.osgi_world.specs.Lists.{In}
use Rattle.osgi_world.specs.Lookups.{capability_at, capability_count, capability_namespace, is_current, is_fragment, is_host_of, revision_at}
use Rattle.osgi_world.specs.Satisfaction.{is_bundle, Satisfies}
use Rattle.osgi_world.specs.Wirings.{InForce, IsExport, IsWorld, OnOffer}
use Rattle.osgi_world.specs.declared.capability.Capability.{Capability}
use Rattle.osgi_world.specs.declared.problem.Problem.{Problem}
use Rattle.osgi_world.specs.declared.requirement.Requirement.{Requirement}
use Rattle.osgi_world.specs.declared.revision.Revision.{Revision}
use Rattle.osgi_world.specs.declared.wiring.CapRef.{CapRef}
use Rattle.osgi_world.specs.declared.wiring.ReqRef.{ReqRef}
use Rattle.osgi_world.specs.declared.world.Known.{Known}
use Rattle.osgi_world.specs.declared.world.World.{World}

-- the world is one that a problem may have
pub record IsFit (w : World) : Type 0 where
  pub world_is : IsWorld w.known w.wirings
  pub ordered : AreOrdered w.known w.wirings
  pub consistent : Consistent w.known w.wirings

-- a problem in the world, of which only the world counts
abbrev pub bare : World → Problem
bare w = record { world = w; root = record { 0 = 0 }; choices = [] }

-- the capability satisfies the requirement
pub record Meets (K : List Known) (n : Requirement) (c : CapRef) : Type 0 where
  pub provider : Revision
  pub capability : Capability
  pub provider_is : revision_at K c.provider ≡ Some provider
  pub capability_is : capability_at K c.owner c.index ≡ Some capability
  pub satisfies : Satisfies n capability provider.name provider.version

abbrev pub MayProvide : List Known → ReqRef → CapRef → Type 0
MayProvide K q c = IsTrue (is_current K c.provider) × ((¬ IsTrue (is_fragment K c.provider)) × (IsTrue (is_bundle (capability_namespace K c.owner c.index)) → c.provider ≢ q.owner))

-- an export of a package that a provider with this wiring imports from elsewhere
abbrev pub IsReplaced : List Known → Held → CapRef → Type 0
IsReplaced K h c = (p : List ℕ) × IsExport K c.owner c.index p × HasPackage h.elsewhere p

abbrev pub IsHeldOffer : List Known → Held → CapRef → Type 0
IsHeldOffer K h c = (c.index < capability_count K c.owner) × (((c.owner ≡ c.provider) ⊎ HasFragment h.fragments c.owner) × (¬ IsReplaced K h c))

abbrev pub IsToCome : List Known → CapRef → Type 0
IsToCome K c = (c.index < capability_count K c.owner) × ((c.owner ≡ c.provider) ⊎ IsTrue (is_current K c.owner) × IsTrue (is_host_of K c.owner c.provider))

-- the provider has it on offer, or, if it is not in force, would have it
abbrev pub Stands : World → CapRef → Type 0
Stands w c =
    (InForce w.wirings c.provider × OnOffer w.known w.wirings c)
    ⊎ (¬ InForce w.wirings c.provider) × ((c.owner ≡ c.provider) ⊎ In c.owner (matching (bare w) c.provider)) × (c.index < capability_count w.known c.owner)
