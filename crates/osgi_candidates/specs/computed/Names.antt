-- What stands under the names of known revisions.
use Rattle.std.specs.Prelude.{◌≡◌, ◌⊎◌, ◌↔◌, ℕ, IsTrue, List, [], slice_get, Some}
use Rattle.osgi_base.specs.computed.Texts.{text_cmp}
use Rattle.osgi_base.specs.declared.ids.RevisionId.{RevisionId}
use Rattle.osgi_candidates.specs.declared.names.KnownNames.{KnownNames}
use Rattle.osgi_candidates.specs.computed.Texts.{AddsTexts, HasNoTexts, IsListed, IsTextOf}
use Rattle.osgi_candidates.specs.declared.names.Place.{Place}
use Rattle.osgi_world.specs.Lists.{In, Two}
use Rattle.osgi_world.specs.Lookups.{IsKnown, known_at, symbolic_name}
use Rattle.osgi_world.specs.declared.capability.Capability.{Capability}
use Rattle.osgi_world.specs.declared.requirement.Requirement.{Requirement}
use Rattle.osgi_world.specs.declared.world.Known.{Known}
use Rattle.osgi_space_rows.specs.computed.Groups as groups
use Rattle.osgi_space_rows.specs.declared.grouped.Grouped.{Grouped}

-- the values of the name
abbrev pub values_of : {V : Type 0} → Grouped (List ℕ) V → List ℕ → List V
values_of named name = groups.values_of text_cmp named name

abbrev pub place_at : RevisionId → ℕ → Place
place_at owner index = record { owner = owner; index = index }

pub record HasNone (names : KnownNames) : Type 0 where
  pub capabilities : (n : List ℕ) → values_of names.capabilities n ≡ []
  pub texts : HasNoTexts names.texts
  pub revisions : (n : List ℕ) → values_of names.revisions n ≡ []
  pub fragments : (n : List ℕ) → values_of names.fragments n ≡ []

-- what stood under a name still does, and so does what is said
pub record GrowsBy {V : Type 0} (old new : Grouped (List ℕ) V) (Added : List ℕ → V → Type 0) : Type 0 where
  pub kept : (n : List ℕ) (v : V) → In v (values_of old n) → In v (values_of new n)
  pub added : (n : List ℕ) (v : V) → Added n v → In v (values_of new n)

-- a current fragment stands under the name of its host
abbrev pub fragment_added : Known → List ℕ → RevisionId → Type 0
fragment_added k n r = IsTrue k.current × ((asked : Requirement) × (k.revision.host ≡ Some asked) × (asked.name ≡ n)) × (r ≡ k.id)

-- the capability at this place of what is known has this name
abbrev pub capability_added : Known → List ℕ → Place → Type 0
capability_added k n p = (c : Capability) × (slice_get k.revision.capabilities p.index ≡ Some c) × (c.name ≡ n) × (p.owner ≡ k.id)

abbrev pub ListsCapabilities : Known → Grouped (List ℕ) Place → Grouped (List ℕ) Place → Type 0
ListsCapabilities k old new = GrowsBy old new (capability_added k)

-- the names with one more known revision
pub record AddsKnown (k : Known) (old new : KnownNames) : Type 0 where
  pub capabilities : GrowsBy old.capabilities new.capabilities (capability_added k)
  pub texts : AddsTexts old.texts new.texts (IsTextOf k)
  pub fragments : GrowsBy old.fragments new.fragments (fragment_added k)
  pub revisions : (n : List ℕ) (r : RevisionId) → In r (values_of new.revisions n) ↔ (In r (values_of old.revisions n) ⊎ (n ≡ k.revision.name) × (r ≡ k.id))

-- each revision is known once
abbrev pub AreOnce : List Known → Type 0
AreOnce K = ¬ Two (λ (k l : Known). k.id ≡ l.id) K

-- each capability and each current fragment stands under its name, and each capability where its texts are sought, perhaps beside
-- others; the revisions under a name are exactly those that have it. Of several revisions with one id the first counts
pub record AreNames (K : List Known) (names : KnownNames) : Type 0 where
  pub capabilities : (id : RevisionId) (k : Known) → known_at K id ≡ Some k → (n : List ℕ) (p : Place) → capability_added k n p → In p (values_of names.capabilities n)
  pub texts : (id : RevisionId) (k : Known) → known_at K id ≡ Some k → (n a t : List ℕ) (p : Place) → IsTextOf k n a t p → IsListed names.texts n a t p
  pub fragments : (id : RevisionId) (k : Known) → known_at K id ≡ Some k → (n : List ℕ) (r : RevisionId) → fragment_added k n r → In r (values_of names.fragments n)
  pub revisions : (n : List ℕ) (r : RevisionId) → In r (values_of names.revisions n) ↔ (IsKnown K r × (symbolic_name K r ≡ n))
