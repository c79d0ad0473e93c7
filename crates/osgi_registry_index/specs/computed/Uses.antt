-- The counts of uses as they are kept.
use Rattle.std.specs.Prelude.{ℕ, List, ◌∷◌, Option, None, Some}

-- the first user's count, if there is one, and those of the others
abbrev pub all_uses : Option (ℕ × ℕ) → List (ℕ × ℕ) → List (ℕ × ℕ)
all_uses None others = others
all_uses (Some first) others = first ∷ others
