-- Nodes of which none is out.
use Rattle.std.specs.Prelude.{◌≡◌, ℕ, ◌+◌, ◌-◌, ◌<◌, List, [], ◌∷◌, length}
use Rattle.osgi_links.specs.computed.Chain.{Link, next_at, prev_at}

-- each node is linked with the one before it and the one behind it
abbrev pub IsStraight : List Link → Type 0
IsStraight links = (k : ℕ) → k < length links → (next_at links k ≡ k + 1) × (prev_at links k ≡ k - 1)

-- the same, but for the last node, which nothing stands behind
pub record IsWhole (links : List Link) : Type 0 where
  pub behind : (k : ℕ) → k + 1 < length links → next_at links k ≡ k + 1
  pub before : (k : ℕ) → k < length links → prev_at links k ≡ k - 1
  pub inside : (k : ℕ) → k < length links → next_at links k < length links

-- the number of each list's first item, and of the item that would come last
abbrev pub bounds_from : ℕ → List (List ℕ) → List ℕ
bounds_from first [] = first ∷ []
bounds_from first (xs ∷ lists) = first ∷ bounds_from (first + length xs) lists
