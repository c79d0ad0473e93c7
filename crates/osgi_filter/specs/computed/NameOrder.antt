-- The places of attributes in order of their names. No public promise speaks of this.
use Rattle.std.specs.Prelude.{ℕ, zero, suc, ◌≡◌, List, [], ◌∷◌, ◌++◌, length, slice_get}
use Rattle.std.specs.Cmp.Lexicographic.{slice_cmp}
use Rattle.std.specs.List.Sorted.{IsPermutation, IsSortedBy}
use Rattle.std.specs.Option.{option_map_or}
use Rattle.std.specs.Ordering.{is_lt, nat_cmp, on, then_cmp}
use Rattle.std.specs.declared.cmp.Ordering.{Ordering}
use Rattle.osgi_filter.specs.declared.case.Case.{Case}
use Rattle.osgi_filter.specs.computed.Folded.{folded}
use Rattle.osgi_model.specs.declared.value.Attribute.{Attribute}

-- the name of the attribute at a place; behind the last one the empty name
abbrev pub name_at : List Attribute → ℕ → List ℕ
name_at attributes place = option_map_or (λ (a : Attribute). a.name) (slice_get attributes place) []

-- places are ordered by the names there, and those of one name by themselves
abbrev pub place_cmp : Case → List Attribute → ℕ → ℕ → Ordering
place_cmp case attributes = then_cmp (on (λ place. folded case (name_at attributes place)) (slice_cmp nat_cmp)) nat_cmp

-- the places 0, 1, .. of so many
abbrev pub places_of : ℕ → List ℕ
places_of zero = []
places_of (suc n) = places_of n ++ n ∷ []

-- the place of each attribute once, in order of the names, the first of a name first
pub record IsNameOrder (case : Case) (attributes : List Attribute) (places : List ℕ) : Type 0 where
  pub each_once : IsPermutation (places_of (length attributes)) places
  pub in_order : IsSortedBy (λ one other. is_lt (place_cmp case attributes one other)) places

-- places are in such an order where they are given at all
abbrev pub AreInOrder : Case → List Attribute → List ℕ → Type 0
AreInOrder case attributes places = (places ≡ [] → ⊥) → IsNameOrder case attributes places
