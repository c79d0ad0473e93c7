-- Words as spaces separate them: a space between quotes separates nothing.
use Rattle.std.specs.Prelude.{ℕ, ◌≡◌, ◌<◌, List, [], ◌∷◌, length, Some}
use Rattle.osgi_base.specs.declared.parts.QuoteState.TheVariants.{Bare}
use Rattle.osgi_base.specs.Parts.{scan}

-- a word that ends neither within itself nor between quotes
pub record IsLineWord (word : List ℕ) : Type 0 where
  pub some : 0 < length word
  pub scanned : scan 32 Bare word ≡ Some Bare

abbrev pub AreLineWords : List (List ℕ) → Type 0
AreLineWords [] = Unit {0}
AreLineWords (word ∷ words) = IsLineWord word × AreLineWords words
