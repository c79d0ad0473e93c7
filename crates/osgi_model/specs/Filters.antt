-- The grammar of filters. A filter stands from its `(` (the byte 40) to its `)` (41).
use Rattle.std.specs.Prelude.{ℕ, suc, ◌≤◌, max, ◌≡◌, Bool, true, false, ◌==◌, ◌||◌, ◌&&◌, not, IsTrue, List, [], ◌∷◌, ◌++◌}
use Rattle.osgi_version.specs.Bytes.{Each, IsBlank, is_blank}
use Rattle.osgi_model.specs.declared.filter.TheConstants.{MAX_LEVELS}
use Rattle.osgi_model.specs.declared.filter.Test.{Test}
use Rattle.osgi_model.specs.declared.filter.Test.TheVariants.{Equal, Approx, AtLeast, AtMost, Present, Pieces}
use Rattle.osgi_model.specs.declared.filter.Filter.{Filter, roll-Filter}
use Rattle.osgi_model.specs.declared.filter.Filter.TheOpen.{Filter-F, And, Or, Not, Item}
use Rattle.osgi_model.specs.declared.filter.Filter.TheFolds.{fold-Filter}

-- ---- names

-- none of `=` `<` `>` `~` `(` `)`
abbrev pub is_item_name_byte : ℕ → Bool
is_item_name_byte b = not (b == 61 || b == 60 || b == 62 || b == 126 || b == 40 || b == 41)

abbrev pub IsItemNameByte : ℕ → Type 0
IsItemNameByte b = IsTrue (is_item_name_byte b)

-- one or more such bytes, of which the first and the last are no white space
pub record IsItemName (name : List ℕ) : Type 0 where
  pub bytes : Each IsItemNameByte name
  pub begins : (first : ℕ) × (rest : List ℕ) × (name ≡ first ∷ rest) × (is_blank first ≡ false)
  pub ends : (prefix : List ℕ) × (last : ℕ) × (name ≡ prefix ++ last ∷ []) × (is_blank last ≡ false)

-- ---- values

-- a byte of a value that stands for itself: none of `(` `)` `\`, and no `*` where stars cut
abbrev pub is_plain : Bool → ℕ → Bool
is_plain stars b = not (b == 40 || b == 41 || b == 92 || b == 42 && stars)

-- `text` is written for these pieces, the first of them apart: `\` (92) takes the next byte as it is, and where stars cut
-- each other `*` (42) ends a piece and begins the next
pub data HasPieces (stars : Bool) : List ℕ → List ℕ → List (List ℕ) → Type 0 where
  end : HasPieces stars [] [] []
  plain : (b : ℕ) (text piece : List ℕ) (more : List (List ℕ)) → is_plain stars b ≡ true → HasPieces stars text piece more → HasPieces stars (b ∷ text) (b ∷ piece) more
  escaped : (b : ℕ) (text piece : List ℕ) (more : List (List ℕ)) → HasPieces stars text piece more → HasPieces stars (92 ∷ b ∷ text) (b ∷ piece) more
  star : (text piece : List ℕ) (more : List (List ℕ)) → stars ≡ true → HasPieces stars text piece more → HasPieces stars (42 ∷ text) [] (piece ∷ more)

-- ---- tests: an operator and its value

-- stars cut only after `=` (61), where the lone star is presence; `~` is 126, `>` 62 and `<` 60
pub data IsTest : List ℕ → Test → Type 0 where
  equal : (text value : List ℕ) → HasPieces true text value [] → IsTest (61 ∷ text) (Equal value)
  present : IsTest (61 ∷ 42 ∷ []) Present
  pieces : (text first second : List ℕ) (more : List (List ℕ)) → HasPieces true text first (second ∷ more) → (text ≡ 42 ∷ [] → ⊥) → IsTest (61 ∷ text) (Pieces (first ∷ second ∷ more))
  approx : (text value : List ℕ) → HasPieces false text value [] → IsTest (126 ∷ 61 ∷ text) (Approx value)
  at_least : (text value : List ℕ) → HasPieces false text value [] → IsTest (62 ∷ 61 ∷ text) (AtLeast value)
  at_most : (text value : List ℕ) → HasPieces false text value [] → IsTest (60 ∷ 61 ∷ text) (AtMost value)

-- ---- filters

mutual
  -- an item; or `!` (33) with a filter, `&` (38) or `|` (124) with one filter or more. White space may stand round the
  -- name of an item, and after `!`, `&` and `|`.
  pub data IsFilter : List ℕ → Filter → Type 0 where
    item : (before name after signed : List ℕ) (test : Test) → Each IsBlank before → IsItemName name → Each IsBlank after → IsTest signed test → IsFilter (40 ∷ before ++ (name ++ (after ++ (signed ++ 41 ∷ [])))) (roll-Filter (Item name test))
    negated : (before one after : List ℕ) (f : Filter) → Each IsBlank before → IsFilter one f → Each IsBlank after → IsFilter (40 ∷ 33 ∷ before ++ (one ++ (after ++ 41 ∷ []))) (roll-Filter (Not f))
    all : (text : List ℕ) (f : Filter) (fs : List Filter) → AreFilters text (f ∷ fs) → IsFilter (40 ∷ 38 ∷ text ++ 41 ∷ []) (roll-Filter (And (f ∷ fs)))
    any : (text : List ℕ) (f : Filter) (fs : List Filter) → AreFilters text (f ∷ fs) → IsFilter (40 ∷ 124 ∷ text ++ 41 ∷ []) (roll-Filter (Or (f ∷ fs)))

  -- filters in order, with white space before, between and after them
  pub data AreFilters : List ℕ → List Filter → Type 0 where
    none : (blanks : List ℕ) → Each IsBlank blanks → AreFilters blanks []
    more : (blanks one rest : List ℕ) (f : Filter) (fs : List Filter) → Each IsBlank blanks → IsFilter one f → AreFilters rest fs → AreFilters (blanks ++ (one ++ rest)) (f ∷ fs)

-- ---- levels

abbrev pub most : List ℕ → ℕ
most [] = 0
most (n ∷ ns) = max n (most ns)

-- one more than the levels of the filters inside; an item has one
abbrev pub levels_step : Filter-F ℕ → ℕ
levels_step (And ns) = suc (most ns)
levels_step (Or ns) = suc (most ns)
levels_step (Not n) = suc n
levels_step (Item name test) = 1

abbrev pub levels : Filter → ℕ
levels = fold-Filter ℕ levels_step

-- ---- texts

-- `text` reads as the filter `f`: it is written so, with white space round it, and it has as many levels as a filter may have
pub record ReadsFilter (text : List ℕ) (f : Filter) : Type 0 where
  pub before : List ℕ
  pub bare : List ℕ
  pub after : List ℕ
  pub parts : text ≡ before ++ (bare ++ after)
  pub blanks_before : Each IsBlank before
  pub blanks_after : Each IsBlank after
  pub written : IsFilter bare f
  pub few : levels f ≤ MAX_LEVELS

abbrev pub IsReadableFilter : List ℕ → Type 0
IsReadableFilter text = (f : Filter) × ReadsFilter text f
