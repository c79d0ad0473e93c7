-- What rows hold: items by their numbers, some of them taken out.
use Prim.Native.Nat.{zero, suc}
use Rattle.std.specs.Prelude.{ℕ, ◌+◌, ◌==◌, Bool, false, not, ◌||◌, cond, List, [], ◌∷◌, filter, length, slice_index_or, Option, None, Some}
use Rattle.std.specs.List.{concat}
use Rattle.std.specs.declared.vec.Vec.{Vec}

-- the items of each row, those that are out too; each item's value; and the items that are out, the last one first
pub record Held : Type 0 where
  pub rows : List (List ℕ)
  pub values : List ℕ
  pub removed : List ℕ

-- whether the number is in the list
abbrev pub has : List ℕ → ℕ → Bool
has [] x = false
has (y ∷ ys) x = (x == y) || has ys x

-- the row's items that are not out, in their order
abbrev pub linked : Held → ℕ → List ℕ
linked held row = filter (λ x. not (has held.removed x)) (slice_index_or held.rows row [])

-- the list without the number
abbrev pub without : ℕ → List ℕ → List ℕ
without x xs = filter (λ y. not (y == x)) xs

abbrev pub first_of : List ℕ → Option ℕ
first_of [] = None
first_of (x ∷ xs) = Some x

-- what comes after x in the list
abbrev pub after : ℕ → List ℕ → Option ℕ
after x [] = None
after x (y ∷ ys) = cond (x == y) (first_of ys) (after x ys)

-- as many numbers, counted from the first
abbrev pub count_up : ℕ → ℕ → List ℕ
count_up first zero = []
count_up first (suc n) = first ∷ count_up (first + 1) n

-- the items of each list, numbered along the lists from the first number
abbrev pub item_numbers : ℕ → List (List ℕ) → List (List ℕ)
item_numbers first [] = []
item_numbers first (xs ∷ lists) = count_up first (length xs) ∷ item_numbers (first + length xs) lists

abbrev pub contents : {A : Type 0} → List (Vec ℕ A) → List (List ℕ)
contents [] = []
contents (v ∷ vs) = v.items ∷ contents vs

-- rows of these values, with no item out
abbrev pub new_rows : List (List ℕ) → Held
new_rows lists = record { rows = item_numbers 0 lists; values = concat lists; removed = [] }
