-- The lines of a manifest's main section, and which of them belong to one header.
use Rattle.std.specs.Prelude.{ℕ, ◌≡◌, ◌≢◌, ◌+◌, ◌<◌, ◌==◌, ◌||◌, not, Bool, false, List, [], ◌∷◌, ◌++◌, length, drop, map}
use Rattle.std.specs.List.{AllPass, concat}

-- a line: the place of its first byte, and its bytes without its end
pub record PhysicalLine : Type 0 where
  pub at : ℕ
  pub text : List ℕ

-- any byte other than CR and LF
abbrev pub is_line_byte : ℕ → Bool
is_line_byte b = not ((b == 13) || (b == 10))

-- what ends a line, before this rest of the bytes: CRLF, LF, or a CR that no LF follows. At the end of the bytes a line needs
-- no end
pub data EndsLine : List ℕ → List ℕ → Type 0 where
  crlf : {rest : List ℕ} → EndsLine (13 ∷ 10 ∷ []) rest
  lf : {rest : List ℕ} → EndsLine (10 ∷ []) rest
  cr : {rest : List ℕ} → ((more : List ℕ) → rest ≢ 10 ∷ more) → EndsLine (13 ∷ []) rest
  nothing : EndsLine [] []

-- the bytes begin with this line, which is not empty, and this is left after its end
pub record BeginsWithPhysicalLine (bytes text left : List ℕ) : Type 0 where
  pub end : List ℕ
  pub is : bytes ≡ text ++ (end ++ left)
  pub some : 0 < length text
  pub line_bytes : AllPass is_line_byte text
  pub ends : EndsLine end left

-- the main section is over: nothing is left, or an empty line stands there
pub data EndsSection : List ℕ → Type 0 where
  no_bytes : EndsSection []
  empty_line : {b : ℕ} {rest : List ℕ} → is_line_byte b ≡ false → EndsSection (b ∷ rest)

-- the lines of the main section of these bytes, the first of which stands at this place
pub data AreLines : ℕ → List ℕ → List PhysicalLine → Type 0 where
  over : {at : ℕ} {bytes : List ℕ} → EndsSection bytes → AreLines at bytes []
  next : {at : ℕ} {bytes text left : List ℕ} {lines : List PhysicalLine} (begins : BeginsWithPhysicalLine bytes text left) →
      AreLines (at + (length text + length begins.end)) left lines → AreLines at bytes (record { at = at; text = text } ∷ lines)

-- a line that begins with a space continues the line before it, also where nothing follows the space: such a line is
-- not empty, and ends no section
abbrev pub begins_with_space : List ℕ → Bool
begins_with_space [] = false
begins_with_space (b ∷ rest) = b == 32

abbrev pub continues : PhysicalLine → Bool
continues line = begins_with_space line.text

-- the lines of one header: the first, and those that continue it
pub record Group : Type 0 where
  pub first : PhysicalLine
  pub more : List PhysicalLine

-- what follows a header's lines: nothing, or a line that continues none
pub data StopsGroup : List PhysicalLine → Type 0 where
  at_end : StopsGroup []
  another : {line : PhysicalLine} {rest : List PhysicalLine} → continues line ≡ false → StopsGroup (line ∷ rest)

-- the lines, header by header. The first line of all begins a header whatever it begins with
pub data AreGrouped : List PhysicalLine → List Group → Type 0 where
  none : AreGrouped [] []
  header : {rest : List PhysicalLine} {groups : List Group} (first : PhysicalLine) (more : List PhysicalLine) → AllPass continues more → StopsGroup rest → AreGrouped rest groups →
      AreGrouped (first ∷ more ++ rest) (record { first = first; more = more } ∷ groups)

-- a header's lines in one: those that continue the first go without the space at their start
abbrev pub joined : Group → List ℕ
joined group = group.first.text ++ concat (map (λ line. drop 1 line.text) group.more)
