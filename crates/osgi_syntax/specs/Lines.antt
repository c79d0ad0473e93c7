-- Lines: the first of a text, those that say nothing, and the ends of those that may have a filter there.
use Rattle.std.specs.Prelude.{ℕ, ◌≡◌, ◌<◌, List, ◌∷◌, ◌++◌, length, Option, None, Some}
use Rattle.std.specs.Str.Lines.{lines}
use Rattle.osgi_model.specs.Filters.{ReadsFilter}
use Rattle.osgi_model.specs.declared.filter.Filter.{Filter}
use Rattle.osgi_syntax.specs.Words.{AreSpaces}

-- the text begins with this line and its end, and what is left after that is shorter
pub record BeginsWithLine (text line left : List ℕ) : Type 0 where
  pub lines : lines text ≡ line ∷ lines left
  pub shorter : length left < length text

-- a line that says nothing: spaces, or a comment, whose first byte besides spaces is `#`
pub data SaysNothing : List ℕ → Type 0 where
  blank : {text : List ℕ} → AreSpaces text → SaysNothing text
  comment : {text : List ℕ} (spaces rest : List ℕ) → AreSpaces spaces → text ≡ spaces ++ 35 ∷ rest → SaysNothing text

-- the end of a line that may have a filter there: without one it is spaces; with one it begins with a space and reads as
-- the filter, which white space may surround
abbrev pub IsFilterEnd : Option Filter → List ℕ → Type 0
IsFilterEnd None text = AreSpaces text
IsFilterEnd (Some filter) text = (rest : List ℕ) × (text ≡ 32 ∷ rest) × ReadsFilter text filter
