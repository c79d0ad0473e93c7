-- What is known of revisions, by their ids, and of their requirements and capabilities, by their places. Of what is not
-- known, nothing holds; its requirements count as optional, and its bundle as 0.
use Rattle.std.specs.Prelude.{ℕ, ◌≡◌, ◌+◌, ◌==◌, ◌&&◌, ◌||◌, Bool, true, false, not, IsTrue, IsSome, is_some, nat_lt, List, [], ◌++◌, length, find, slice_get, Option, Some, option_and_then}
use Rattle.std.specs.Option.{option_map, option_map_or}
use Rattle.osgi_base.specs.declared.ids.BundleId.{BundleId}
use Rattle.osgi_base.specs.declared.ids.RevisionId.{RevisionId}
use Rattle.osgi_world.specs.Satisfaction.{matches_host, Satisfies, StandsForPackage}
use Rattle.osgi_world.specs.declared.capability.Capability.{Capability}
use Rattle.osgi_world.specs.declared.requirement.Requirement.{Requirement}
use Rattle.osgi_world.specs.declared.revision.Revision.{Revision}
use Rattle.osgi_world.specs.declared.wiring.CapRef.{CapRef}
use Rattle.osgi_world.specs.declared.wiring.ReqRef.{ReqRef}
use Rattle.osgi_world.specs.declared.world.Known.{Known}

-- ---- revisions

abbrev pub known_at : List Known → RevisionId → Option Known
known_at K r = find (λ (k : Known). k.id.0 == r.0) K

abbrev pub IsKnown : List Known → RevisionId → Type 0
IsKnown K r = IsSome (known_at K r)

abbrev pub revision_at : List Known → RevisionId → Option Revision
revision_at K r = option_map (λ (k : Known). k.revision) (known_at K r)

abbrev pub is_current : List Known → RevisionId → Bool
is_current K r = option_map_or (λ (k : Known). k.current) (known_at K r) false

abbrev pub is_fragment : List Known → RevisionId → Bool
is_fragment K r = option_map_or (λ (v : Revision). is_some v.host) (revision_at K r) false

abbrev pub is_singleton : List Known → RevisionId → Bool
is_singleton K r = option_map_or (λ (v : Revision). v.singleton) (revision_at K r) false

abbrev pub symbolic_name : List Known → RevisionId → List ℕ
symbolic_name K r = option_map_or (λ (v : Revision). v.name) (revision_at K r) []

abbrev pub bundle_of : List Known → RevisionId → ℕ
bundle_of K r = option_map_or (λ (k : Known). k.bundle.0) (known_at K r) 0

-- the fragment matches the host by name and range, and the host, which is no fragment, permits fragments
abbrev pub is_host_of : List Known → RevisionId → RevisionId → Bool
is_host_of K f h = option_map_or (λ fragment. option_map_or (λ host. matches_host fragment host) (revision_at K h) false) (revision_at K f) false

-- the revision is the current one of the bundle
pub record IsCurrentOf (K : List Known) (b : BundleId) (r : RevisionId) : Type 0 where
  pub known : Known
  pub is : known_at K r ≡ Some known
  pub bundle : known.bundle ≡ b
  pub current : IsTrue known.current

-- ---- capabilities

abbrev pub capability_count : List Known → RevisionId → ℕ
capability_count K r = option_map_or (λ (v : Revision). length v.capabilities) (revision_at K r) 0

-- the capability at this place of its owner
abbrev pub capability_at : List Known → RevisionId → ℕ → Option Capability
capability_at K owner index = option_and_then (λ (v : Revision). slice_get v.capabilities index) (revision_at K owner)

abbrev pub capability_namespace : List Known → RevisionId → ℕ → List ℕ
capability_namespace K owner index = option_map_or (λ (c : Capability). c.namespace) (capability_at K owner index) []

abbrev pub capability_name : List Known → RevisionId → ℕ → List ℕ
capability_name K owner index = option_map_or (λ (c : Capability). c.name) (capability_at K owner index) []

-- what its directive `uses` lists
abbrev pub used_packages : List Known → RevisionId → ℕ → List (List ℕ)
used_packages K owner index = option_map_or (λ (c : Capability). c.uses) (capability_at K owner index) []

-- ---- requirements

-- how many requirements a revision has, dynamic imports not counted
abbrev pub requirement_count : List Known → RevisionId → ℕ
requirement_count K r = option_map_or (λ (v : Revision). length v.requirements) (revision_at K r) 0

abbrev pub dynamic_count : List Known → RevisionId → ℕ
dynamic_count K r = option_map_or (λ (v : Revision). length v.dynamics) (revision_at K r) 0

-- the requirement at this place; the places of dynamic imports are those after all requirements
abbrev pub requirement_at : List Known → ReqRef → Option Requirement
requirement_at K q = option_and_then (λ (v : Revision). slice_get (v.requirements ++ v.dynamics) q.index) (revision_at K q.owner)

abbrev pub is_dynamic : List Known → ReqRef → Bool
is_dynamic K q = not (nat_lt q.index (requirement_count K q.owner)) && nat_lt q.index (requirement_count K q.owner + dynamic_count K q.owner)

abbrev pub requirement_namespace : List Known → ReqRef → List ℕ
requirement_namespace K q = option_map_or (λ (n : Requirement). n.namespace) (requirement_at K q) []

abbrev pub is_effective : List Known → ReqRef → Bool
is_effective K q = option_map_or (λ (n : Requirement). n.effective) (requirement_at K q) false

abbrev pub is_optional : List Known → ReqRef → Bool
is_optional K q = option_map_or (λ (n : Requirement). n.optional) (requirement_at K q) true

-- it may have several wires, as a dynamic import always may
abbrev pub is_multiple : List Known → ReqRef → Bool
is_multiple K q = is_dynamic K q || option_map_or (λ (n : Requirement). n.multiple) (requirement_at K q) false

abbrev pub is_reexport : List Known → ReqRef → Bool
is_reexport K q = option_map_or (λ (n : Requirement). n.reexport) (requirement_at K q) false

-- effective and mandatory
pub record IsNeeded (K : List Known) (q : ReqRef) : Type 0 where
  pub effective : IsTrue (is_effective K q)
  pub mandatory : ¬ IsTrue (is_optional K q)

-- ---- both

-- the capability satisfies the requirement, with its provider's name and version. A dynamic import is asked for the
-- package of the capability, if its own name stands for it
abbrev pub SatisfiesAs : Bool → Requirement → Capability → Revision → Type 0
SatisfiesAs false n c provider = Satisfies n c provider.name provider.version
SatisfiesAs true n c provider = StandsForPackage n.name c.name × Satisfies (record n { name = c.name }) c provider.name provider.version

-- the same of what stands at these places
pub record SatisfiesAt (K : List Known) (q : ReqRef) (c : CapRef) : Type 0 where
  pub requirement : Requirement
  pub capability : Capability
  pub provider : Revision
  pub requirement_is : requirement_at K q ≡ Some requirement
  pub capability_is : capability_at K c.owner c.index ≡ Some capability
  pub provider_is : revision_at K c.provider ≡ Some provider
  pub satisfies : SatisfiesAs (is_dynamic K q) requirement capability provider
