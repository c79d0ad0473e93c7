-- The places of services among those of their classes, as an index keeps them.
use Rattle.std.specs.Prelude.{ℕ, ◌≡◌, ◌&&◌, Bool, true, false, cond, List, []}
use Rattle.std.specs.List.{list_any}
use Rattle.std.specs.BTreeMap.{BTreeMap, get, is_at}
use Rattle.std.specs.BTreeSet.{BTreeSet}
use Rattle.std.specs.Cmp.Lexicographic.{slice_cmp}
use Rattle.std.specs.Option.{option_map_or}
use Rattle.std.specs.Ordering.{int_cmp, is_eq, nat_cmp, ordering_then}
use Rattle.std.specs.declared.cmp.Ordering.{Ordering}
use Rattle.osgi_base.specs.declared.ids.ServiceId.{ServiceId}
use Rattle.osgi_model.specs.declared.value.Attribute.{Attribute}
use Rattle.osgi_base.specs.Texts.{is_among}
use Rattle.osgi_ops.specs.Properties.{ranking}
use Rattle.osgi_ops.specs.declared.service.Service.{Service}
use Rattle.osgi_registry_index.specs.declared.class_index.ClassIndex.{ClassIndex}
use Rattle.osgi_registry_index.specs.declared.place.Place.{Place}

-- higher rankings first, then lower ids
abbrev pub place_cmp : Place → Place → Ordering
place_cmp p q = ordering_then (int_cmp q.ranking.0 p.ranking.0) (nat_cmp p.service q.service)

abbrev pub same_place : Place → Place → Bool
same_place p q = is_eq (place_cmp p q)

-- the places of each class
abbrev pub Classes : Type 0
Classes = BTreeMap (List ℕ) (BTreeSet Place)

-- those that the index keeps
abbrev pub classes_in : ClassIndex → Classes
classes_in index = index.classes

-- the places of the class
abbrev pub places_at : Classes → List ℕ → List Place
places_at classes class = option_map_or (λ places. places.keys) (get (slice_cmp nat_cmp) classes class) []

-- the place stands under the class
abbrev pub holds : Classes → List ℕ → Place → Bool
holds classes class place = list_any (is_at (place_cmp place)) (places_at classes class)

abbrev pub service_at : Place → ServiceId
service_at place = record { 0 = place.service }

-- the place comes to stand under the classes, or not to; nothing else changes
abbrev pub Puts : Classes → Classes → List (List ℕ) → Place → Bool → Type 0
Puts old new classes place is = (c : List ℕ) (p : Place) → holds new c p ≡ cond (is_among classes c && same_place place p) is (holds old c p)

abbrev pub HoldsSame : Classes → Classes → Type 0
HoldsSame old new = (c : List ℕ) (p : Place) → holds new c p ≡ holds old c p

-- the place stands under no class
abbrev pub IsFresh : Classes → Place → Type 0
IsFresh classes place = (c : List ℕ) (p : Place) → same_place place p ≡ true → holds classes c p ≡ false

-- one place stands in the stead of another under the classes
abbrev pub Moves : Classes → Classes → List (List ℕ) → Place → Place → Type 0
Moves old new classes from to = (c : List ℕ) (p : Place) → holds new c p ≡ cond (is_among classes c && same_place to p) true (cond (is_among classes c && same_place from p) false (holds old c p))

-- the place stands under each of the classes
abbrev pub StandsUnder : Classes → List (List ℕ) → Place → Type 0
StandsUnder old classes place = (c : List ℕ) (p : Place) → is_among classes c ≡ true → same_place place p ≡ true → holds old c p ≡ true

-- ---- the place of a service

abbrev pub place_with : List Attribute → ServiceId → Place
place_with properties service = record { ranking = record { 0 = ranking properties }; service = service.0 }

abbrev pub place_of : Service → Place
place_of service = place_with service.properties service.service
