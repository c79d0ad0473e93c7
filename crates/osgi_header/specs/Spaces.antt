-- Spaces and tabs, and what is left of a text without those at its ends.
use Rattle.std.specs.Prelude.{ℕ, ◌≡◌, ◌==◌, ◌||◌, Bool, false, List, [], ◌∷◌, ◌++◌}
use Rattle.std.specs.List.{AllPass}

abbrev pub is_space_or_tab : ℕ → Bool
is_space_or_tab b = (b == 32) || (b == 9)

-- what is left of a text without the spaces and tabs at its ends
pub record IsTrimmed (text inner : List ℕ) : Type 0 where
  pub before : List ℕ
  pub remainder : List ℕ
  pub is : text ≡ before ++ (inner ++ remainder)
  pub blank_before : AllPass is_space_or_tab before
  pub blank_after : AllPass is_space_or_tab remainder
  pub first : (b : ℕ) (rest : List ℕ) → inner ≡ b ∷ rest → is_space_or_tab b ≡ false
  pub last : (prefix : List ℕ) (b : ℕ) → inner ≡ prefix ++ b ∷ [] → is_space_or_tab b ≡ false
