-- The headers of a manifest's main section, and what is wrong where its lines are none.
use Rattle.std.specs.Prelude.{ℕ, ◌≡◌, ◌≢◌, ◌<◌, ◌≤◌, ◌==◌, ◌||◌, ◌&&◌, nat_le, if◌then◌else◌, Bool, List, [], ◌∷◌, ◌++◌, length, All, IsUtf8}
use Rattle.std.specs.List.{AllPass, list_any}
use Rattle.std.specs.Str.{str_eq_ignore_ascii_case}
use Rattle.osgi_header.specs.declared.fault.HeaderFault.{HeaderFault}
use Rattle.osgi_header.specs.declared.fault.HeaderKind.TheVariants.{BadName, BadUtf8, LongLine, NoColon}
use Rattle.osgi_header.specs.declared.header.Header.{Header}
use Rattle.osgi_header.specs.declared.unfolding.TheConstants.{MAX_LINE_LEN}
use Rattle.osgi_header.specs.Lines.{AreGrouped, AreLines, Group, joined, PhysicalLine}

-- a letter, a digit, `-` or `_`
abbrev pub is_header_name_byte : ℕ → Bool
is_header_name_byte b = (nat_le 97 b && nat_le b 122) || (nat_le 65 b && nat_le b 90) || (nat_le 48 b && nat_le b 57) || (b == 95) || (b == 45)

-- the name of a header: such bytes, of which the first is a letter or a digit
pub record IsHeaderName (name : List ℕ) : Type 0 where
  pub first : ℕ
  pub rest : List ℕ
  pub is : name ≡ first ∷ rest
  pub bytes : AllPass is_header_name_byte name
  pub no_underscore : first ≢ 95
  pub no_dash : first ≢ 45

-- the value of a header by what follows the colon: one space at its start is dropped
pub data IsHeaderValue : List ℕ → List ℕ → Type 0 where
  spaced : {value : List ℕ} → IsHeaderValue (32 ∷ value) value
  bare : {value : List ℕ} → ((rest : List ℕ) → value ≢ 32 ∷ rest) → IsHeaderValue value value

-- the text is a name, a colon and something after it. No name has a colon, so it is the first one
pub record HasHeaderName (text name remainder : List ℕ) : Type 0 where
  pub is : text ≡ name ++ 58 ∷ remainder
  pub named : IsHeaderName name

-- no more bytes than a line may have
abbrev pub IsShort : PhysicalLine → Type 0
IsShort line = length line.text ≤ MAX_LINE_LEN

-- the header that a group of lines is
pub record IsHeader (lines : Group) (header : Header) : Type 0 where
  pub remainder : List ℕ
  pub named : HasHeaderName (joined lines) header.name remainder
  pub value : IsHeaderValue remainder header.value
  pub utf8 : IsUtf8 (joined lines)
  pub short : IsShort lines.first
  pub all_short : All IsShort lines.more

-- what is wrong with a group of lines that is no header. A line that is too long is at fault where it stands, and all else
-- where the first line does; the first place counts, and there the first of these kinds
pub data IsGroupFault : Group → HeaderFault → Type 0 where
  first_long : {lines : Group} → MAX_LINE_LEN < length lines.first.text → IsGroupFault lines (record { kind = LongLine; at = lines.first.at })
  no_colon : {lines : Group} → IsShort lines.first → All (λ b. b ≢ 58) (joined lines) → IsGroupFault lines (record { kind = NoColon; at = lines.first.at })
  bad_name : {lines : Group} (name remainder : List ℕ) → IsShort lines.first → joined lines ≡ name ++ 58 ∷ remainder → All (λ b. b ≢ 58) name → ¬ IsHeaderName name →
      IsGroupFault lines (record { kind = BadName; at = lines.first.at })
  bad_utf8 : {lines : Group} (name remainder : List ℕ) → IsShort lines.first → HasHeaderName (joined lines) name remainder → ¬ IsUtf8 (joined lines) →
      IsGroupFault lines (record { kind = BadUtf8; at = lines.first.at })
  more_long : {lines : Group} (name remainder : List ℕ) (before : List PhysicalLine) (long : PhysicalLine) (rest : List PhysicalLine) → IsShort lines.first → HasHeaderName (joined lines) name remainder →
      IsUtf8 (joined lines) → lines.more ≡ before ++ long ∷ rest → All IsShort before → MAX_LINE_LEN < length long.text →
      IsGroupFault lines (record { kind = LongLine; at = long.at })

-- each group is one of the headers, in order
abbrev pub AreHeaders : List Group → List Header → Type 0
AreHeaders [] [] = Unit {0}
AreHeaders (group ∷ groups) (header ∷ headers) = IsHeader group header × AreHeaders groups headers
AreHeaders _ _ = ⊥

-- names are compared without ASCII case
abbrev pub have_one_name : Header → Header → Bool
have_one_name header other = str_eq_ignore_ascii_case header.name other.name

-- the headers that count: of those with one name the last, where it stands
abbrev pub counting : List Header → List Header
counting [] = []
counting (header ∷ headers) = if list_any (have_one_name header) headers then counting headers else header ∷ counting headers

-- the headers of a manifest's main section
pub record AreHeadersOf (bytes : List ℕ) (headers : List Header) : Type 0 where
  pub lines : List PhysicalLine
  pub groups : List Group
  pub all : List Header
  pub are_lines : AreLines 0 bytes lines
  pub are_grouped : AreGrouped lines groups
  pub are_headers : AreHeaders groups all
  pub count : headers ≡ counting all

-- the fault of the first group of lines that is no header
pub record IsHeaderFault (bytes : List ℕ) (fault : HeaderFault) : Type 0 where
  pub lines : List PhysicalLine
  pub before : List Group
  pub faulty : Group
  pub rest : List Group
  pub are_lines : AreLines 0 bytes lines
  pub are_grouped : AreGrouped lines (before ++ faulty ∷ rest)
  pub are_headers : All (λ group. (header : Header) × IsHeader group header) before
  pub is : IsGroupFault faulty fault
