-- The grammar of ranges: a plain version, or two versions with a comma between and brackets round them.
use Rattle.std.specs.Prelude.{ℕ, ◌≡◌, Bool, true, false, List, ◌∷◌, ◌++◌, Option, Some, None}
use Rattle.osgi_version.specs.Bytes.{Each, IsBlank}
use Rattle.osgi_version.specs.Versions.{Parts, SpellsVersion, ReadsVersion, numbered}

-- what a range says; without `high` it has no upper bound
pub record RangeParts : Type 0 where
  pub low : Parts
  pub low_in : Bool
  pub high : Option Parts
  pub high_in : Bool

-- all versions: what a plain 0.0.0 says, and a range that is left out
abbrev pub at_least_zero : RangeParts
at_least_zero = record { low = numbered 0 0 0; low_in = true; high = None; high_in = false }

-- `[` (the byte 91) lets the bound in and `(` (40) does not
pub data Opens : ℕ → Bool → Type 0 where
  square : Opens 91 true
  round : Opens 40 false

-- `]` (93) lets the bound in and `)` (41) does not
pub data Closes : ℕ → Bool → Type 0 where
  square : Closes 93 true
  round : Closes 41 false

-- an opening bracket, a version, a comma (44), a version and a closing bracket, with white space round them
pub record IsBounded (Version : List ℕ → Parts → Type 0) (text : List ℕ) (low : Parts) (low_in : Bool) (high : Parts) (high_in : Bool) : Type 0 where
  pub lead : List ℕ
  pub open_byte : ℕ
  pub low_text : List ℕ
  pub high_text : List ℕ
  pub close_byte : ℕ
  pub tail : List ℕ
  pub parts : text ≡ lead ++ open_byte ∷ (low_text ++ 44 ∷ (high_text ++ close_byte ∷ tail))
  pub lead_blanks : Each IsBlank lead
  pub opens : Opens open_byte low_in
  pub low_reads : Version low_text low
  pub high_reads : Version high_text high
  pub closes : Closes close_byte high_in
  pub tail_blanks : Each IsBlank tail

-- a range, where `Version` says which texts are versions; a plain version means at least this
pub data IsRangeOf (Version : List ℕ → Parts → Type 0) : List ℕ → RangeParts → Type 0 where
  plain : {text : List ℕ} {v : Parts} → Version text v → IsRangeOf Version text (record { low = v; low_in = true; high = None; high_in = false })
  bounded : {text : List ℕ} {low high : Parts} {low_in high_in : Bool} → IsBounded Version text low low_in high high_in → IsRangeOf Version text (record { low = low; low_in = low_in; high = Some high; high_in = high_in })

-- `text` reads as the range `r`
abbrev pub ReadsRange : List ℕ → RangeParts → Type 0
ReadsRange = IsRangeOf ReadsVersion

-- `text` is spelled as a range, where numbers may be too large
abbrev pub IsSpelledRange : List ℕ → Type 0
IsSpelledRange text = (r : RangeParts) × IsRangeOf SpellsVersion text r

abbrev pub IsReadableRange : List ℕ → Type 0
IsReadableRange text = (r : RangeParts) × ReadsRange text r
