-- Pieces that stand in a text. No public promise speaks of this.
use Rattle.std.specs.Prelude.{ℕ, ◌≡◌, ⊤, List, [], ◌∷◌, ◌++◌}

-- in order without overlap
abbrev pub Between : List (List ℕ) → List ℕ → Type 0
Between [] text = ⊤
Between (piece ∷ more) text = (gap : List ℕ) × (rest : List ℕ) × (text ≡ gap ++ (piece ++ rest)) × Between more rest
