-- Kinds of bytes, and lists of bytes of one kind: `Each` says of such a list that a fact holds of each byte.
pub use Rattle.std.specs.List.{AllByRecursion as Each}
use Rattle.std.specs.Prelude.{ℕ, Bool, ◌||◌, ◌==◌, IsTrue}
use Rattle.std.specs.Char.{is_ascii_digit, is_ascii_alphanumeric}

-- white space: tab, line feed, form feed, carriage return, space
abbrev pub is_blank : ℕ → Bool
is_blank b = b == 9 || b == 10 || b == 12 || b == 13 || b == 32

abbrev pub IsBlank : ℕ → Type 0
IsBlank b = IsTrue (is_blank b)

abbrev pub IsDigit : ℕ → Type 0
IsDigit b = IsTrue (is_ascii_digit b)

-- a letter, a digit, `_` or `-`
abbrev pub is_word_byte : ℕ → Bool
is_word_byte b = is_ascii_alphanumeric b || b == 95 || b == 45

abbrev pub IsWordByte : ℕ → Type 0
IsWordByte b = IsTrue (is_word_byte b)
