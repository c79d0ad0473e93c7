-- What a filter says of attributes, by recursion on the tree.
use Rattle.std.specs.Prelude.{ℕ, ◌≡◌, ◌⊎◌, ⊤, Bool, not, IsTrue, List, [], ◌∷◌, ◌++◌, map, filter, find, Option, Some, None, ℤ}
use Rattle.std.specs.Char.{is_ascii_whitespace, to_ascii_lowercase}
use Rattle.std.specs.Cmp.Lexicographic.{slice_cmp}
use Rattle.std.specs.List.{AllByRecursion}
use Rattle.std.specs.Option.{option_map}
use Rattle.std.specs.declared.cmp.Ordering.{Ordering}
use Rattle.std.specs.Ordering.{nat_cmp, int_cmp, is_eq, is_ge, is_le}
use Rattle.osgi_version.specs.VersionValues.{order, parts}
use Rattle.osgi_version.specs.Versions.{Parts, ReadsVersion}
use Rattle.osgi_model.specs.Longs.{IsLong}
use Rattle.osgi_model.specs.declared.filter.Test.{Test}
use Rattle.osgi_model.specs.declared.filter.Test.TheVariants.{Equal, Approx, AtLeast, AtMost, Present, Pieces}
use Rattle.osgi_model.specs.declared.filter.Filter.{Filter}
use Rattle.osgi_model.specs.declared.filter.Filter.TheOpen.{Filter-F, And, Or, Not, Item}
use Rattle.osgi_model.specs.declared.filter.Filter.TheFolds.{rec-Filter}
use Rattle.osgi_model.specs.declared.value.Attribute.{Attribute}
use Rattle.osgi_model.specs.declared.value.Value.{Value}
use Rattle.osgi_model.specs.declared.value.Value.TheOpen as value
use Rattle.osgi_model.specs.declared.value.Value.TheFolds.{rec-Value}

-- P holds of one of them
abbrev pub OneOf : {X : Type 0} → (X → Type 0) → List X → Type 0
OneOf P [] = ⊥
OneOf P (x ∷ xs) = P x ⊎ OneOf P xs

-- ---- texts

-- without white space and ASCII case
abbrev pub approx_form : List ℕ → List ℕ
approx_form text = map to_ascii_lowercase (filter (λ b. not (is_ascii_whitespace b)) text)

-- the first piece begins the text, the last ends it, and the others stand between in order without overlap; a single
-- piece is the whole text
abbrev pub Stand : List (List ℕ) → List ℕ → Type 0
Stand [] text = ⊥
Stand (last ∷ []) text = text ≡ last
Stand (piece ∷ next ∷ more) text = (gap : List ℕ) × (rest : List ℕ) × (text ≡ piece ++ (gap ++ rest)) × Stand (next ∷ more) rest

-- what a test asks of a text; texts are ordered by their bytes
abbrev pub TextPasses : Test → List ℕ → Type 0
TextPasses (Equal text) given = given ≡ text
TextPasses (Approx text) given = approx_form given ≡ approx_form text
TextPasses (AtLeast text) given = IsTrue (is_ge (slice_cmp nat_cmp given text))
TextPasses (AtMost text) given = IsTrue (is_le (slice_cmp nat_cmp given text))
TextPasses Present given = ⊤
TextPasses (Pieces pieces) given = Stand pieces given

-- ---- numbers and versions

-- how values of a type are read of texts, and ordered
pub record Ordered (V : Type 0) : Type 1 where
  pub Reads : List ℕ → V → Type 0
  pub order : V → V → Ordering

abbrev pub numbers : Ordered ℤ
numbers = record { Reads = IsLong; order = int_cmp }

abbrev pub versions : Ordered Parts
versions = record { Reads = ReadsVersion; order = order }

-- the text reads as a value of this kind, and the given one stands to it as asked
abbrev pub Compares : {V : Type 0} → Ordered V → (Ordering → Bool) → List ℕ → V → Type 0
Compares {V} kind asked text given = (value : V) × kind.Reads text value × IsTrue (asked (kind.order given value))

-- what a test asks of a number or version; no pieces match one
abbrev pub OrderedPasses : {V : Type 0} → Ordered V → Test → V → Type 0
OrderedPasses kind (Equal text) given = Compares kind is_eq text given
OrderedPasses kind (Approx text) given = Compares kind is_eq text given
OrderedPasses kind (AtLeast text) given = Compares kind is_ge text given
OrderedPasses kind (AtMost text) given = Compares kind is_le text given
OrderedPasses kind Present given = ⊤
OrderedPasses kind (Pieces pieces) given = ⊥

-- ---- values

-- a list passes where one element does; X stands for its elements, and `Passes` says which of them pass
abbrev pub PassesBy : Test → (X : Type 0) → (X → Value) → (X → Type 0) → value.Value-F X → Type 0
PassesBy test X element Passes (value.Text given) = TextPasses test given
PassesBy test X element Passes (value.Long given) = OrderedPasses numbers test given
PassesBy test X element Passes (value.Version given) = OrderedPasses versions test (parts given)
PassesBy test X element Passes (value.List given) = OneOf Passes given

-- the value passes the test
abbrev pub Passes : Test → Value → Type 0
Passes test = rec-Value (Type 0) (PassesBy test)

-- a missing attribute passes no test, and any other is present
abbrev pub ItemPasses : Test → Option Value → Type 0
ItemPasses test None = ⊥
ItemPasses Present (Some given) = ⊤
ItemPasses test (Some given) = Passes test given

-- ---- filters

-- the value of the first attribute of that name, where `same` says which names are the same
abbrev pub attribute_value : (List ℕ → List ℕ → Bool) → List ℕ → List Attribute → Option Value
attribute_value same name attributes = option_map (λ (a : Attribute). a.value) (find (λ (a : Attribute). same a.name name) attributes)

-- `&` asks for all operands, `|` for one, and `!` that its operand does not match; X stands for the operands, and
-- `Matches` says which of them match
abbrev pub MatchesBy : (List ℕ → List ℕ → Bool) → List Attribute → (X : Type 0) → (X → Filter) → (X → Type 0) → Filter-F X → Type 0
MatchesBy same attributes X operand Matches (And filters) = AllByRecursion Matches filters
MatchesBy same attributes X operand Matches (Or filters) = OneOf Matches filters
MatchesBy same attributes X operand Matches (Not filter) = ¬ Matches filter
MatchesBy same attributes X operand Matches (Item name test) = ItemPasses test (attribute_value same name attributes)

-- the filter matches the attributes, whose names are compared by `same`
abbrev pub Matches : (List ℕ → List ℕ → Bool) → List Attribute → Filter → Type 0
Matches same attributes = rec-Filter (Type 0) (MatchesBy same attributes)
