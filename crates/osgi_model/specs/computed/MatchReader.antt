-- What is computed of a filter and attributes. No promise of this crate speaks of this. The laws in
-- `Decided` show that it is true exactly where the filter matches.
use Rattle.std.specs.Prelude.{ℕ, Bool, true, false, ◌&&◌, ◌||◌, not, List, [], ◌∷◌, length, drop, Option, Some, None, ℤ}
use Rattle.std.specs.Cmp.Lexicographic.{slice_cmp}
use Rattle.std.specs.List.{starts_with, list_all, list_any}
use Rattle.std.specs.Option.{option_and_then}
use Rattle.std.specs.declared.cmp.Ordering.{Ordering}
use Rattle.std.specs.Ordering.{nat_cmp, int_cmp, is_eq, is_ge, is_le}
use Rattle.std.specs.Str.{bytes_eq}
use Rattle.std.specs.Prelude.{nat_eq}
use Rattle.osgi_version.specs.VersionValues.{order, parts}
use Rattle.osgi_version.specs.Versions.{Parts}
use Rattle.osgi_model.specs.computed.LongReader.{long_of}
use Rattle.osgi_model.specs.Matching.{approx_form, attribute_value}
use Rattle.osgi_version.specs.VersionReading.{parts_of}
use Rattle.osgi_model.specs.declared.filter.Test.{Test}
use Rattle.osgi_model.specs.declared.filter.Test.TheVariants.{Equal, Approx, AtLeast, AtMost, Present, Pieces}
use Rattle.osgi_model.specs.declared.filter.Filter.{Filter}
use Rattle.osgi_model.specs.declared.filter.Filter.TheOpen.{Filter-F, And, Or, Not, Item}
use Rattle.osgi_model.specs.declared.filter.Filter.TheFolds.{fold-Filter}
use Rattle.osgi_model.specs.declared.value.Attribute.{Attribute}
use Rattle.osgi_model.specs.declared.value.Value.{Value}
use Rattle.osgi_model.specs.declared.value.Value.TheOpen as value
use Rattle.osgi_model.specs.declared.value.Value.TheFolds.{fold-Value}

-- ---- texts

-- at some place from here to the end
abbrev pub somewhere : (List ℕ → Bool) → List ℕ → Bool
somewhere test [] = test []
somewhere test (b ∷ bs) = test (b ∷ bs) || somewhere test bs

-- the pieces stand in the text
abbrev pub stand : List (List ℕ) → List ℕ → Bool
stand [] text = false
stand (last ∷ []) text = bytes_eq text last
stand (piece ∷ next ∷ more) text = starts_with nat_eq text piece && somewhere (stand (next ∷ more)) (drop (length piece) text)

abbrev pub text_passes : Test → List ℕ → Bool
text_passes (Equal text) given = bytes_eq given text
text_passes (Approx text) given = bytes_eq (approx_form given) (approx_form text)
text_passes (AtLeast text) given = is_ge (slice_cmp nat_cmp given text)
text_passes (AtMost text) given = is_le (slice_cmp nat_cmp given text)
text_passes Present given = true
text_passes (Pieces pieces) given = stand pieces given

-- ---- numbers and versions

-- how the given number stands to that of a text, and the given version
abbrev pub long_order : ℤ → List ℕ → Option Ordering
long_order given text = option_and_then (λ n. Some (int_cmp given n)) (long_of text)

abbrev pub version_order : Parts → List ℕ → Option Ordering
version_order given text = option_and_then (λ v. Some (order given v)) (parts_of text)

abbrev pub is_asked : (Ordering → Bool) → Option Ordering → Bool
is_asked asked None = false
is_asked asked (Some o) = asked o

-- `order` says how the given value stands to that of a text
abbrev pub order_passes : (List ℕ → Option Ordering) → Test → Bool
order_passes order (Equal text) = is_asked is_eq (order text)
order_passes order (Approx text) = is_asked is_eq (order text)
order_passes order (AtLeast text) = is_asked is_ge (order text)
order_passes order (AtMost text) = is_asked is_le (order text)
order_passes order Present = true
order_passes order (Pieces pieces) = false

-- ---- values and filters

abbrev pub one_of : List Bool → Bool
one_of = list_any (λ b. b)

abbrev pub all_of : List Bool → Bool
all_of = list_all (λ b. b)

abbrev pub passes_by : Test → value.Value-F Bool → Bool
passes_by test (value.Text given) = text_passes test given
passes_by test (value.Long given) = order_passes (long_order given) test
passes_by test (value.Version given) = order_passes (version_order (parts given)) test
passes_by test (value.List passes) = one_of passes

abbrev pub passes : Test → Value → Bool
passes test = fold-Value Bool (passes_by test)

abbrev pub item_passes : Test → Option Value → Bool
item_passes test None = false
item_passes Present (Some given) = true
item_passes test (Some given) = passes test given

abbrev pub matches_by : (List ℕ → List ℕ → Bool) → List Attribute → Filter-F Bool → Bool
matches_by same attributes (And bs) = all_of bs
matches_by same attributes (Or bs) = one_of bs
matches_by same attributes (Not b) = not b
matches_by same attributes (Item name test) = item_passes test (attribute_value same name attributes)

abbrev pub matches : (List ℕ → List ℕ → Bool) → List Attribute → Filter → Bool
matches same attributes = fold-Filter Bool (matches_by same attributes)
