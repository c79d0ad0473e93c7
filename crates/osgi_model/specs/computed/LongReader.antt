-- What is computed of a text that may be a number of 64 bits. No promise of this crate speaks
-- of this. The laws in `Longs` show that it is the number that the text is.
use Rattle.std.specs.Prelude.{ℕ, ◌-◌, ◌==◌, ◌&&◌, int_le, ℤ, negsuc, pos, if◌then◌else◌, Bool, false, List, length, Option, None, Some, take, drop}
use Rattle.std.specs.Char.{is_ascii_whitespace, is_digit}
use Rattle.std.specs.List.{list_all, prefix_len, suffix_len}
use Rattle.std.specs.Str.Parse.{signed_digits_value, without_leading_sign}

abbrev pub is_decimal : ℕ → Bool
is_decimal b = is_digit b 10

-- one decimal digit or more, and nothing else
abbrev pub is_numeral : List ℕ → Bool
is_numeral digits = if length digits == 0 then false else list_all is_decimal digits

-- a text without the white space round it
abbrev pub trimmed : List ℕ → List ℕ
trimmed text =
    let begun : List ℕ = drop (prefix_len is_ascii_whitespace text) text in
    take (length begun - suffix_len is_ascii_whitespace begun) begun

-- a number of 64 bits, from -(2 ^ 63) to 2 ^ 63 - 1
abbrev pub fits : ℤ → Bool
fits number = int_le (negsuc 9223372036854775807) number && int_le number (pos 9223372036854775807)

abbrev pub number_of : List ℕ → Option ℤ
number_of text = if is_numeral (without_leading_sign text) && fits (signed_digits_value 10 text) then Some (signed_digits_value 10 text) else None

abbrev pub long_of : List ℕ → Option ℤ
long_of text = number_of (trimmed text)
