-- Texts among others.
use Rattle.std.specs.Prelude.{ℕ, Bool, List}
use Rattle.std.specs.List.{list_any}
use Rattle.std.specs.Str.{bytes_eq}

-- the text is one of these
abbrev pub is_among : List (List ℕ) → List ℕ → Bool
is_among texts text = list_any (λ t. bytes_eq t text) texts
