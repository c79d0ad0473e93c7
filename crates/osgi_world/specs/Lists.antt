-- Predicates and look-ups on lists.
use Rattle.std.specs.Prelude.{◌≡◌, ℕ, zero, suc, ◌⊎◌, List, [], ◌∷◌, ◌++◌}

-- x is one of the items
abbrev pub In : {X : Type 0} → X → List X → Type 0
In x [] = ⊥
In x (y ∷ ys) = (x ≡ y) ⊎ In x ys

-- the items of two places stand in the relation, that of the earlier place first
abbrev pub Two : {X : Type 0} → (X → X → Type 0) → List X → Type 0
Two R [] = ⊥
Two {X = X} R (x ∷ xs) = ((y : X) × In y xs × R x y) ⊎ Two R xs

-- the item at the place, alone; none after the end
abbrev pub item_at : {X : Type 0} → List X → ℕ → List X
item_at [] n = []
item_at (x ∷ xs) zero = x ∷ []
item_at (x ∷ xs) (suc n) = item_at xs n

-- the list at the place; an empty one after the end
abbrev pub nth_list : {X : Type 0} → List (List X) → ℕ → List X
nth_list [] n = []
nth_list (x ∷ xs) zero = x
nth_list (x ∷ xs) (suc n) = nth_list xs n

-- the numbers below n, rising
abbrev pub below : ℕ → List ℕ
below zero = []
below (suc n) = below n ++ n ∷ []
