-- Texts that are numbers of 64 bits with sign.
use Rattle.std.specs.Prelude.{ℕ, ◌≡◌, ◌≤ℤ◌, List, ◌∷◌, ◌++◌, ℤ, pos, negsuc, neg_ℤ}
use Rattle.std.specs.Char.{is_ascii_whitespace}
use Rattle.std.specs.List.{AllPass}
use Rattle.std.specs.Str.Parse.{IsNumeral, digits_value}

-- the number that one or more decimal digits write, with `+` (43) or `-` (45) before them or neither
pub data Writes : List ℕ → ℤ → Type 0 where
  unsigned : {digits : List ℕ} → IsNumeral 10 digits → Writes digits (pos (digits_value 10 digits))
  positive : {digits : List ℕ} → IsNumeral 10 digits → Writes (43 ∷ digits) (pos (digits_value 10 digits))
  negative : {digits : List ℕ} → IsNumeral 10 digits → Writes (45 ∷ digits) (neg_ℤ (pos (digits_value 10 digits)))

-- a number of 64 bits with sign, from -(2 ^ 63) to 2 ^ 63 - 1, which may have white space round it
pub record IsLong (text : List ℕ) (number : ℤ) : Type 0 where
  pub before : List ℕ
  pub written : List ℕ
  pub remainder : List ℕ
  pub is : text ≡ before ++ (written ++ remainder)
  pub white_before : AllPass is_ascii_whitespace before
  pub white_after : AllPass is_ascii_whitespace remainder
  pub writes : Writes written number
  pub least : negsuc 9223372036854775807 ≤ℤ number
  pub greatest : number ≤ℤ pos 9223372036854775807
