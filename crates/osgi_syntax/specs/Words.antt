-- The words of a line: how spaces separate them, and what each kind of them stands for.
use Rattle.std.specs.Prelude.{ℕ, ◌≡◌, ◌<◌, ◌≤◌, ◌^◌, ◌==◌, ◌||◌, ◌&&◌, nat_le, Bool, true, List, [], ◌∷◌, ◌++◌, length, All}
use Rattle.std.specs.List.{AllPass, join_with_byte}
use Rattle.std.specs.Str.Parse.{IsNumeral, digits_value}
use Rattle.osgi_base.specs.declared.ids.BundleId.{BundleId}
use Rattle.osgi_base.specs.declared.ids.ServiceId.{ServiceId}

-- spaces (32)
abbrev pub AreSpaces : List ℕ → Type 0
AreSpaces text = All (λ b. b ≡ 32) text

-- the text is these words, one or more spaces before each of them, and after the last such an end
abbrev pub IsSeparated : (List ℕ → Type 0) → List (List ℕ) → List ℕ → Type 0
IsSeparated IsEnd [] text = IsEnd text
IsSeparated IsEnd (word ∷ words) text =
    (spaces rest : List ℕ) × AreSpaces spaces × (0 < length spaces) × (text ≡ spaces ++ (word ++ rest)) × IsSeparated IsEnd words rest

-- ---- names

-- `a` (97) to `z` (122), or `A` (65) to `Z` (90)
abbrev pub is_letter : ℕ → Bool
is_letter b = (nat_le 97 b && nat_le b 122) || (nat_le 65 b && nat_le b 90)

-- `0` (48) to `9` (57)
abbrev pub is_decimal_digit : ℕ → Bool
is_decimal_digit b = nat_le 48 b && nat_le b 57

-- one or more bytes, each of which passes
abbrev pub IsSomeOf : (ℕ → Bool) → List ℕ → Type 0
IsSomeOf passes text = (0 < length text) × AllPass passes text

-- the text is these parts, of which there are some, with the separator between them; each is one or more bytes that pass
pub record AreJoined (passes : ℕ → Bool) (separator : ℕ) (text : List ℕ) (parts : List (List ℕ)) : Type 0 where
  pub some : 0 < length parts
  pub each : All (IsSomeOf passes) parts
  pub joined : text ≡ join_with_byte separator parts

-- a letter, a digit, `_`, `$` or `.`
abbrev pub is_class_byte : ℕ → Bool
is_class_byte b = is_letter b || is_decimal_digit b || (b == 95) || (b == 36) || (b == 46)

abbrev pub IsClass : List ℕ → Type 0
IsClass name = IsSomeOf is_class_byte name

-- the word is these class names, with commas between them
abbrev pub AreClasses : List ℕ → List (List ℕ) → Type 0
AreClasses word classes = AreJoined is_class_byte 44 word classes

-- a letter or `_`
abbrev pub begins_name : ℕ → Bool
begins_name b = is_letter b || (b == 95)

-- a letter, a digit or `_`
abbrev pub is_name_byte : ℕ → Bool
is_name_byte b = is_letter b || is_decimal_digit b || (b == 95)

-- the name of a variable, a listener or a job: a letter or `_`, and then letters, digits and `_`
abbrev pub IsName : List ℕ → Type 0
IsName [] = ⊥
IsName (b ∷ rest) = (begins_name b ≡ true) × AllPass is_name_byte rest

-- a letter, a digit, `_` or `-`
abbrev pub is_token_byte : ℕ → Bool
is_token_byte b = is_letter b || is_decimal_digit b || (b == 95) || (b == 45)

-- the symbolic name of a bundle: tokens with `.` between them
abbrev pub IsBundleName : List ℕ → Type 0
IsBundleName name = (tokens : List (List ℕ)) × AreJoined is_token_byte 46 name tokens

-- ---- ids

-- the word is one to ten decimal digits, and the service has their number
pub record IsId (word : List ℕ) (service : ServiceId) : Type 0 where
  pub numeral : IsNumeral 10 word
  pub short : length word ≤ 10
  pub number : service.0 ≡ digits_value 10 word

-- the word is one to ten decimal digits of a number below 2^32, and the bundle has their number
pub record IsBundleId (word : List ℕ) (bundle : BundleId) : Type 0 where
  pub numeral : IsNumeral 10 word
  pub short : length word ≤ 10
  pub fits : digits_value 10 word < 2 ^ 32
  pub number : bundle.0 ≡ digits_value 10 word
