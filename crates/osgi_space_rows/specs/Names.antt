-- Numbers for names: each name has its place in the list of the names.
use Rattle.std.specs.Prelude.{◌≡◌, ℕ, ◌+◌, ◌⊎◌, List, [], ◌∷◌, ◌++◌, length, replicate, slice_get, sum_by, Some, unwrap_or}

-- the name has this number
abbrev pub HasNumber : List (List ℕ) → List ℕ → ℕ → Type 0
HasNumber names text number = slice_get names number ≡ Some text

-- no name has two numbers
abbrev pub AreOnce : List (List ℕ) → Type 0
AreOnce names = (text : List ℕ) (i j : ℕ) → HasNumber names text i → HasNumber names text j → i ≡ j

-- the name keeps the number that it has, or gets the next
abbrev pub Interns : List (List ℕ) → List (List ℕ) → List ℕ → Type 0
Interns old new text = ((number : ℕ) × HasNumber old text number × (new ≡ old)) ⊎ (((number : ℕ) → ¬ HasNumber old text number) × (new ≡ old ++ text ∷ []))

-- the name with this number; beyond the last a text that is longer than each name, another for each number
abbrev pub name_numbered : List (List ℕ) → ℕ → List ℕ
name_numbered names number = unwrap_or (slice_get names number) (replicate (sum_by length names + 1 + number) 0)
