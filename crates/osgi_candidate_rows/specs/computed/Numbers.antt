-- Items of rows by their numbers, and candidates by theirs: both are counted along all lists.
use Prim.Native.Nat.{zero, suc}
use Rattle.std.specs.Prelude.{◌≡◌, ◌+◌, ◌<◌, ◌≤◌, ◌⊎◌, ℕ, true, List, [], ◌∷◌, ◌++◌, flat_map, length, map, slice_index_or, Option, None, Some}
use Rattle.std.specs.List.{concat}
use Rattle.osgi_base.specs.declared.ids.RevisionId.{RevisionId}
use Rattle.osgi_links.specs.Held.{Held, count_up, has, item_numbers}
use Rattle.osgi_world.specs.Lists.{In, nth_list}
use Rattle.osgi_world.specs.declared.problem.Choice.{Choice}
use Rattle.osgi_world.specs.declared.wiring.CapRef.{CapRef}

-- the candidates of a row; none where there is no such row
abbrev pub row_of : List Choice → ℕ → List CapRef
row_of choices row = nth_list (map (λ (c : Choice). c.candidates) choices) row

-- the number of the row's first candidate
abbrev pub first_number : List Choice → ℕ → ℕ
first_number [] row = 0
first_number (c ∷ choices) zero = 0
first_number (c ∷ choices) (suc row) = length c.candidates + first_number choices row

-- a capability that stands nowhere
abbrev pub no_candidate : CapRef
no_candidate = record { provider = record { 0 = 0 }; owner = record { 0 = 0 }; index = 0 }

-- the candidate of this number
abbrev pub candidate : List Choice → ℕ → CapRef
candidate choices number = slice_index_or (flat_map (λ (c : Choice). c.candidates) choices) number no_candidate

-- the places of each list
abbrev pub places : List Choice → List (List ℕ)
places [] = []
places (c ∷ choices) = count_up 0 (length c.candidates) ∷ places choices

-- the rows have an item for each candidate, with its place as value
pub record HoldsPlaces (choices : List Choice) (held : Held) : Type 0 where
  pub rows : held.rows ≡ item_numbers 0 (places choices)
  pub values : held.values ≡ concat (places choices)

-- between these places of the row, the first one counted, each item is out
abbrev pub AreGone : List Choice → List ℕ → ℕ → ℕ → ℕ → Type 0
AreGone choices removed row from upto = (place : ℕ) → from ≤ place → place < upto → place < length (row_of choices row) → has removed (first_number choices row + place) ≡ true

-- this place comes next in the row, from a place on; or no candidate is left
abbrev pub IsNextPlace : List Choice → List ℕ → ℕ → ℕ → Option ℕ → Type 0
IsNextPlace choices removed row from None = AreGone choices removed row from (length (row_of choices row))
IsNextPlace choices removed row from (Some place) = (from ≤ place) × ((place ≤ length (row_of choices row)) ⊎ (place ≡ from)) × AreGone choices removed row from place

-- the item stands in the row, and is of a candidate of this provider
pub record IsItemOf (choices : List Choice) (provider : RevisionId) (row item : ℕ) : Type 0 where
  pub there : row < length choices
  pub low : first_number choices row ≤ item
  pub high : item < first_number choices row + length (row_of choices row)
  pub of_provider : (candidate choices item).provider ≡ provider

-- one item more is out, and the number of those that were taken out is one more; or nothing is changed
abbrev pub IsOneOut : ℕ → ℕ → Held → ℕ → Held → Type 0
IsOneOut item before old after new = ((after ≡ before) × (new ≡ old)) ⊎ ((after ≡ before + 1) × (new ≡ record old { removed = item ∷ old.removed }))

-- more items are out, each one of a candidate of this provider, and the number of those that were taken out grows by as many
pub record Removes (choices : List Choice) (provider : RevisionId) (before : ℕ) (old : Held) (after : ℕ) (new : Held) : Type 0 where
  pub taken : List ℕ
  pub held : new ≡ record old { removed = taken ++ old.removed }
  pub number : after ≡ before + length taken
  pub of_provider : (x : ℕ) → In x taken → (candidate choices x).provider ≡ provider
