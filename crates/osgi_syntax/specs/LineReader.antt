-- What the reader computes of lines. It is proved to give the readings of the grammar.
use Rattle.std.specs.Prelude.{ℕ, ◌==◌, Bool, true, List, [], ◌∷◌}

-- a line feed (10)
abbrev pub is_line_feed : ℕ → Bool
is_line_feed b = b == 10

-- whether this, which follows the spaces at the start of a line, is nothing or a comment, which begins with `#` (35)
abbrev pub is_silent : List ℕ → Bool
is_silent [] = true
is_silent (b ∷ rest) = b == 35
