-- The grammar of versions: `major[.minor[.micro[.qualifier]]]`, with white space round it. Each part is written from
-- the left: a minor text is a number, a dot and a number.
use Rattle.std.specs.Prelude.{ℕ, ◌≡◌, ◌<◌, ◌≤◌, List, [], ◌∷◌, ◌++◌, length}
use Rattle.std.specs.Str.Parse.{IsNumeral, digits_value}
use Rattle.osgi_version.specs.Bytes.{Each, IsBlank, IsWordByte}
use Rattle.osgi_version.specs.declared.version.TheConstants.{MAX_NUMBER}

-- what a version says
pub record Parts : Type 0 where
  pub major : ℕ
  pub minor : ℕ
  pub micro : ℕ
  pub qualifier : List ℕ

-- three numbers, and the empty qualifier
abbrev pub numbered : ℕ → ℕ → ℕ → Parts
numbered major minor micro = record { major = major; minor = minor; micro = micro; qualifier = [] }

-- one or more digits, and the number that they write
pub record IsNumber (text : List ℕ) (n : ℕ) : Type 0 where
  pub numeral : IsNumeral 10 text
  pub value : n ≡ digits_value 10 text

-- a number, a dot (the byte 46) and a number
pub record IsMinor (text : List ℕ) (m i : ℕ) : Type 0 where
  pub prefix : List ℕ
  pub digits : List ℕ
  pub parts : text ≡ prefix ++ 46 ∷ digits
  pub major : IsNumber prefix m
  pub number : IsNumber digits i

-- a minor text, a dot and a number
pub record IsMicro (text : List ℕ) (m i c : ℕ) : Type 0 where
  pub prefix : List ℕ
  pub digits : List ℕ
  pub parts : text ≡ prefix ++ 46 ∷ digits
  pub minor : IsMinor prefix m i
  pub number : IsNumber digits c

-- a micro text, a dot and one or more letters, digits, `_` and `-`
pub record IsQualified (text : List ℕ) (m i c : ℕ) (q : List ℕ) : Type 0 where
  pub prefix : List ℕ
  pub parts : text ≡ prefix ++ 46 ∷ q
  pub micro : IsMicro prefix m i c
  pub some : 0 < length q
  pub words : Each IsWordByte q

-- a version without the white space round it; missing parts are 0 and the empty qualifier
pub data IsBody : List ℕ → Parts → Type 0 where
  major : {text : List ℕ} {m : ℕ} → IsNumber text m → IsBody text (record { major = m; minor = 0; micro = 0; qualifier = [] })
  minor : {text : List ℕ} {m i : ℕ} → IsMinor text m i → IsBody text (record { major = m; minor = i; micro = 0; qualifier = [] })
  micro : {text : List ℕ} {m i c : ℕ} → IsMicro text m i c → IsBody text (record { major = m; minor = i; micro = c; qualifier = [] })
  qualified : {text : List ℕ} {m i c : ℕ} {q : List ℕ} → IsQualified text m i c q → IsBody text (record { major = m; minor = i; micro = c; qualifier = q })

-- `text` is spelled as the version `v`, with white space round it, where numbers may be too large; white space alone is 0.0.0
pub data SpellsVersion : List ℕ → Parts → Type 0 where
  blank : {text : List ℕ} → Each IsBlank text → SpellsVersion text (record { major = 0; minor = 0; micro = 0; qualifier = [] })
  body : {text : List ℕ} {v : Parts} (lead inner end : List ℕ) → text ≡ lead ++ (inner ++ end) → Each IsBlank lead → IsBody inner v → Each IsBlank end →
      SpellsVersion text v

-- each number is at most the greatest of a version
pub record NumbersFit (v : Parts) : Type 0 where
  pub major : v.major ≤ MAX_NUMBER
  pub minor : v.minor ≤ MAX_NUMBER
  pub micro : v.micro ≤ MAX_NUMBER

-- `text` reads as the version `v`
pub record ReadsVersion (text : List ℕ) (v : Parts) : Type 0 where
  pub spells : SpellsVersion text v
  pub fits : NumbersFit v

abbrev pub IsSpelledVersion : List ℕ → Type 0
IsSpelledVersion text = (v : Parts) × SpellsVersion text v

abbrev pub IsReadableVersion : List ℕ → Type 0
IsReadableVersion text = (v : Parts) × ReadsVersion text v
