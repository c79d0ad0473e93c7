-- The text that is printed of a filter: no white space but that inside names and values, and a `\` before `(`, `)`, `*` and `\` in values.
use Rattle.std.specs.Prelude.{ℕ, true, List, [], ◌∷◌, ◌++◌, map, if◌then◌else◌}
use Rattle.std.specs.List.{concat, join_with_byte}
use Rattle.osgi_model.specs.Filters.{is_plain}
use Rattle.osgi_model.specs.declared.filter.Test.{Test}
use Rattle.osgi_model.specs.declared.filter.Test.TheVariants.{Equal, Approx, AtLeast, AtMost, Present, Pieces}
use Rattle.osgi_model.specs.declared.filter.Filter.{Filter}
use Rattle.osgi_model.specs.declared.filter.Filter.TheOpen.{Filter-F, And, Or, Not, Item}
use Rattle.osgi_model.specs.declared.filter.Filter.TheFolds.{fold-Filter}

-- the value, with `\` (92) before each byte that does not stand for itself
abbrev pub value_text : List ℕ → List ℕ
value_text [] = []
value_text (b ∷ bs) = if is_plain true b then b ∷ value_text bs else 92 ∷ b ∷ value_text bs

-- pieces with `*` (42) between them
abbrev pub starred : List (List ℕ) → List ℕ
starred pieces = join_with_byte 42 (map value_text pieces)

-- what follows the name of an item: `=` is 61, `~` 126, `>` 62, `<` 60 and `*` 42
abbrev pub test_text : Test → List ℕ
test_text (Equal value) = 61 ∷ value_text value
test_text (Approx value) = 126 ∷ 61 ∷ value_text value
test_text (AtLeast value) = 62 ∷ 61 ∷ value_text value
test_text (AtMost value) = 60 ∷ 61 ∷ value_text value
test_text Present = 61 ∷ 42 ∷ []
test_text (Pieces pieces) = 61 ∷ starred pieces

-- the texts of the filters inside are given; `(` is 40, `)` 41, `&` 38, `|` 124 and `!` 33
abbrev pub filter_step : Filter-F (List ℕ) → List ℕ
filter_step (And texts) = 40 ∷ 38 ∷ concat texts ++ 41 ∷ []
filter_step (Or texts) = 40 ∷ 124 ∷ concat texts ++ 41 ∷ []
filter_step (Not text) = 40 ∷ 33 ∷ text ++ 41 ∷ []
filter_step (Item name test) = 40 ∷ name ++ (test_text test ++ 41 ∷ [])

abbrev pub filter_text : Filter → List ℕ
filter_text = fold-Filter (List ℕ) filter_step
