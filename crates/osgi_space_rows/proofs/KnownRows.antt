-- What stands at the places of an owner's capabilities.
use Rattle.std.proofs.Common.{◌≡◌, ◌==◌, inl, inr, ℕ, zero, suc, ◌<◌, List, [], ◌∷◌, length, refl, sym, ◌∙◌, ap, subst, arith}
use Rattle.std.specs.Prelude.{Bool, true, false, cond, IsTrue, Option, None, Some, find, slice_get, option_and_then}
use Rattle.std.specs.Option.{option_map, option_map_or}
use Rattle.std.proofs.lemmas.Bool.{eqb-true}
use Rattle.std.proofs.lemmas.Option.{slice_get_within}
use Rattle.osgi_base.specs.declared.ids.RevisionId.{RevisionId}
use Rattle.osgi_world.specs.Lists.{In}
use Rattle.osgi_world.specs.Lookups.{capability_at, capability_count, capability_name, capability_namespace, known_at, revision_at, used_packages}
use Rattle.osgi_world.specs.Satisfaction.{is_package}
use Rattle.osgi_world.specs.Wirings.{IsExport}
use Rattle.osgi_world.specs.declared.capability.Capability.{Capability}
use Rattle.osgi_world.specs.declared.revision.Revision.{Revision}
use Rattle.osgi_world.specs.declared.world.Known.{Known}
use Rattle.osgi_space_rows.specs.Agree.{id}
use Rattle.osgi_space_rows.specs.computed.Payloads.{capabilities_of}

-- ---- places

pub place-in : {X : Type 0} (x : X) (xs : List X) → In x xs → (k : ℕ) × (slice_get xs k ≡ Some x)
place-in x [] at = absurd at
place-in x (y ∷ xs) (inl same) = (zero, ap Some (sym same))
place-in x (y ∷ xs) (inr later) = let rest = place-in x xs later in (suc rest.0, rest.1)

found-go : {X : Type 0} (p : X → Bool) (x found : X) (xs : List X) (test : Bool) → p x ≡ test → (find p xs ≡ Some found → In found xs × (p found ≡ true)) → cond test (Some x) (find p xs) ≡ Some found → In found (x ∷ xs) × (p found ≡ true)
found-go p x found xs true passes rest is = let same : found ≡ x = cc is in (inl same, ap p same ∙ passes)
found-go p x found xs false fails rest is = let later = rest is in (inr later.0, later.1)

pub found-in : {X : Type 0} (p : X → Bool) (found : X) (xs : List X) → find p xs ≡ Some found → In found xs × (p found ≡ true)
found-in p found [] is = absurd (cc is)
found-in p found (x ∷ xs) is = found-go p x found xs (p x) refl (found-in p found xs) is

-- ---- capabilities of an owner

abbrev pub count_by : Option Revision → ℕ
count_by o = option_map_or (λ (v : Revision). length v.capabilities) o 0

abbrev pub listed_by : Option Revision → List Capability
listed_by o = option_map_or (λ (v : Revision). v.capabilities) o []

abbrev pub at_by : Option Revision → ℕ → Option Capability
at_by o index = option_and_then (λ (v : Revision). slice_get v.capabilities index) o

pub place-by : (o : Option Revision) (c : Capability) → In c (listed_by o) → (index : ℕ) × (index < count_by o) × (at_by o index ≡ Some c)
place-by None c at = absurd at
place-by (Some v) c at = let place = place-in c v.capabilities at in (place.0, slice_get_within v.capabilities place.0 c place.1, place.1)

pub listed-by : (o : Option Revision) (index : ℕ) → index < count_by o → (c : Capability) × In c (listed_by o) × (at_by o index ≡ Some c)
listed-by None index within = absurd (omega (arith, within))
listed-by (Some v) index within = go v.capabilities index within
  where
    go : (cs : List Capability) (k : ℕ) → k < length cs → (c : Capability) × In c cs × (slice_get cs k ≡ Some c)
    go [] k within = absurd (omega (arith, within))
    go (c ∷ cs) zero within = (c, inl refl, refl)
    go (c ∷ cs) (suc k) within = let rest = go cs k (omega (arith, within)) in (rest.0, inr rest.1, rest.2)

pub namespace-at : (K : List Known) (owner : RevisionId) (index : ℕ) (c : Capability) → capability_at K owner index ≡ Some c → capability_namespace K owner index ≡ c.namespace
namespace-at K owner index c at = ap (λ o. option_map_or (λ (d : Capability). d.namespace) o []) at

pub name-at : (K : List Known) (owner : RevisionId) (index : ℕ) (c : Capability) → capability_at K owner index ≡ Some c → capability_name K owner index ≡ c.name
name-at K owner index c at = ap (λ o. option_map_or (λ (d : Capability). d.name) o []) at

pub uses-at : (K : List Known) (owner : RevisionId) (index : ℕ) (c : Capability) → capability_at K owner index ≡ Some c → used_packages K owner index ≡ c.uses
uses-at K owner index c at = ap (λ o. option_map_or (λ (d : Capability). d.uses) o []) at

-- what stands at a place stands within the owner's capabilities
pub counted : (K : List Known) (owner : RevisionId) (index : ℕ) (c : Capability) → capability_at K owner index ≡ Some c → index < capability_count K owner
counted K owner index c at = go (revision_at K owner) at
  where
    go : (o : Option Revision) → at_by o index ≡ Some c → index < count_by o
    go None at = absurd (cc at)
    go (Some v) at = slice_get_within v.capabilities index c at

pub export-at : (K : List Known) (owner : RevisionId) (index : ℕ) (c : Capability) (p : List ℕ) → capability_at K owner index ≡ Some c → IsTrue (is_package c.namespace) → c.name ≡ p → IsExport K owner index p
export-at K owner index c p at of_package named = (subst (λ n. IsTrue (is_package n)) (sym (namespace-at K owner index c at)) of_package, name-at K owner index c at ∙ named)

-- a revision with capabilities is known
pub owner-known : (K : List Known) (owner : RevisionId) (c : Capability) → In c (capabilities_of K owner) → (k : Known) × In k K × (k.id ≡ owner)
owner-known K owner c at = go (known_at K owner) refl at
  where
    go : (o : Option Known) → known_at K owner ≡ o → In c (listed_by (option_map (λ (k : Known). k.revision) o)) → (k : Known) × In k K × (k.id ≡ owner)
    go None is none = absurd none
    go (Some k) is at =
        let found = found-in (λ (j : Known). j.id.0 == owner.0) k K is in
        (k, found.0, ap (λ n. id n) (eqb-true k.id.0 owner.0 found.1))
