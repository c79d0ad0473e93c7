-- What is computed of a filter and attributes is true just where the filter matches.
use Rattle.std.proofs.Common.{◌≡◌, ◌⊎◌, ℕ, List, [], ◌∷◌, Bool, true, map, Option, Some, None, sym, refl, subst, ◌∙◌}
use Rattle.std.specs.Bool.{Decides, ⊤}
use Rattle.std.specs.declared.cmp.Ordering.{Ordering}
use Rattle.std.specs.List.{AllByRecursion}
use Rattle.std.specs.Option.{option_and_then}
use Rattle.std.specs.Ordering.{is_eq, is_ge, is_le}
use Rattle.std.proofs.lemmas.Bool.{false≢true}
use Rattle.std.proofs.lemmas.Bool.Decides.{Decides-and, Decides-not, Decides-or}
use Rattle.std.proofs.lemmas.Option.{none-some, same_Some}
use Rattle.std.proofs.lemmas.Slice.Eq.{bytes_eq-Decides}
use Rattle.osgi_version.specs.VersionValues.{parts}
use Rattle.osgi_model.specs.computed.LongReader.{long_of}
use Rattle.osgi_model.specs.Matching.{OneOf, approx_form, TextPasses, Ordered, Compares, OrderedPasses, PassesBy, Passes, ItemPasses, numbers, attribute_value, versions, MatchesBy, Matches}
use Rattle.osgi_version.specs.VersionReading.{parts_of}
use Rattle.osgi_model.specs.computed.MatchReader.{all_of, is_asked, item_passes, matches, matches_by, one_of, order_passes, passes, passes_by, text_passes}
use Rattle.osgi_model.specs.declared.filter.Filter.{Filter, roll-Filter}
use Rattle.osgi_model.specs.declared.filter.Filter.TheFolds.{fold-roll-Filter, ind-Filter, map-Filter, rec-roll-Filter}
use Rattle.osgi_model.specs.declared.filter.Filter.TheOpen as filter
use Rattle.osgi_model.specs.declared.filter.Test.{Test}
use Rattle.osgi_model.specs.declared.filter.Test.TheVariants.{Equal, Approx, AtLeast, AtMost, Present, Pieces}
use Rattle.osgi_model.specs.declared.value.Attribute.{Attribute}
use Rattle.osgi_model.specs.declared.value.Value.{Value, roll-Value}
use Rattle.osgi_model.specs.declared.value.Value.TheFolds.{fold-roll-Value, ind-Value, map-Value, rec-roll-Value}
use Rattle.osgi_model.specs.declared.value.Value.TheOpen as value
use Rattle.osgi_model.specs.laws.Longs.{long_read, long_sound}
use Rattle.osgi_model.specs.laws.Standing.{nothing, stand_decides}
use Rattle.osgi_version.specs.laws.VersionReading.{parts_read, parts_sound}

itself : (b : Bool) → Decides b (b ≡ true)
itself b = (λ h. h, λ h. h)

always : Decides true ⊤
always = (λ h. tt, λ h. refl)

-- ---- texts

pub text_decides : (test : Test) (given : List ℕ) → Decides (text_passes test given) (TextPasses test given)
text_decides (Equal text) given = bytes_eq-Decides given text
text_decides (Approx text) given = bytes_eq-Decides (approx_form given) (approx_form text)
text_decides (AtLeast text) given = itself _
text_decides (AtMost text) given = itself _
text_decides Present given = always
text_decides (Pieces pieces) given = stand_decides pieces given

-- ---- numbers and versions

module _ {V : Type 0} (kind : Ordered V) (of : List ℕ → Option V) (sound : (text : List ℕ) (v : V) → of text ≡ Some v → kind.Reads text v) (read : (text : List ℕ) (v : V) → kind.Reads text v → of text ≡ Some v) (given : V) where
  abbrev order_to : List ℕ → Option Ordering
  order_to text = option_and_then (λ v. Some (kind.order given v)) (of text)

  compares_by : (asked : Ordering → Bool) (text : List ℕ) (o : Option V) → of text ≡ o → Decides (is_asked asked (option_and_then (λ v. Some (kind.order given v)) o)) (Compares kind asked text given)
  compares_by asked text None e = (λ h. absurd (false≢true h), λ c. absurd (none-some c.0 (sym e ∙ read text c.0 c.1)))
  compares_by asked text (Some v) e = (
    λ h. (v, sound text v e, h),
    λ c. subst (λ (w : V). asked (kind.order given w) ≡ true) (same_Some c.0 v (sym (read text c.0 c.1) ∙ e)) c.2,
  )

  compares : (asked : Ordering → Bool) (text : List ℕ) → Decides (is_asked asked (order_to text)) (Compares kind asked text given)
  compares asked text = compares_by asked text (of text) refl

  pub kind_decides : (test : Test) → Decides (order_passes order_to test) (OrderedPasses kind test given)
  kind_decides (Equal text) = compares is_eq text
  kind_decides (Approx text) = compares is_eq text
  kind_decides (AtLeast text) = compares is_ge text
  kind_decides (AtMost text) = compares is_le text
  kind_decides Present = always
  kind_decides (Pieces pieces) = nothing

-- ---- lists

module _ {X : Type 0} (p : X → Bool) (P : X → Type 0) where
  pub one_decides : (xs : List ((x : X) × Decides (p x) (P x))) → Decides (one_of (map p (map (λ e. e.0) xs))) (OneOf P (map (λ e. e.0) xs))
  one_decides [] = nothing
  one_decides (e ∷ xs) = Decides-or _ _ e.1 (one_decides xs)

  pub all_decides : (xs : List ((x : X) × Decides (p x) (P x))) → Decides (all_of (map p (map (λ e. e.0) xs))) (AllByRecursion P (map (λ e. e.0) xs))
  all_decides [] = always
  all_decides (e ∷ xs) = Decides-and _ _ e.1 (all_decides xs)

module _ (X Y : Type 0) (v : X → Y) (k : Y → Type 0) where
  one_natural : (xs : List X) → ◌≡◌ {A = Type 0} (OneOf (λ x. k (v x)) xs) (OneOf k (map v xs))
  one_natural [] = refl
  one_natural (x ∷ xs) = λ i. k (v x) ⊎ one_natural xs i

  all_natural : (xs : List X) → ◌≡◌ {A = Type 0} (AllByRecursion (λ x. k (v x)) xs) (AllByRecursion k (map v xs))
  all_natural [] = refl
  all_natural (x ∷ xs) = λ i. k (v x) × all_natural xs i

-- ---- values

module _ (test : Test) where
  passes_natural : (X : Type 0) (v : X → Value) (k : Value → Type 0) (x : value.Value-F X) → ◌≡◌ {A = Type 0} (PassesBy test X v (λ p. k (v p)) x) (PassesBy test Value (λ y. y) k (map-Value X Value v x))
  passes_natural X v k (value.Text given) = refl
  passes_natural X v k (value.Long given) = refl
  passes_natural X v k (value.Version given) = refl
  passes_natural X v k (value.List given) = one_natural X Value v k given

  rolled : (x : value.Value-F Value) → Decides (passes_by test (map-Value Value Bool (passes test) x)) (PassesBy test Value (λ y. y) (Passes test) x) → Decides (passes test (roll-Value x)) (Passes test (roll-Value x))
  rolled x h =
      subst (λ (T : Type 0). Decides (passes test (roll-Value x)) T) (sym (rec-roll-Value (Type 0) (PassesBy test) passes_natural x))
      (subst (λ (b : Bool). Decides b (PassesBy test Value (λ y. y) (Passes test) x)) (sym (fold-roll-Value Bool (passes_by test) x)) h)

  made : (y : value.Value-F ((v : Value) × Decides (passes test v) (Passes test v))) → Decides (passes test (roll-Value (map-Value _ Value (λ e. e.0) y))) (Passes test (roll-Value (map-Value _ Value (λ e. e.0) y)))
  made (value.Text given) = rolled (value.Text given) (text_decides test given)
  made (value.Long given) = rolled (value.Long given) (kind_decides numbers long_of long_sound long_read given test)
  made (value.Version given) = rolled (value.Version given) (kind_decides versions parts_of parts_sound parts_read (parts given) test)
  made (value.List given) = rolled (value.List (map (λ e. e.0) given)) (one_decides (passes test) (Passes test) given)

  pub passes_decides : (v : Value) → Decides (passes test v) (Passes test v)
  passes_decides = ind-Value (λ v. Decides (passes test v) (Passes test v)) (λ x y is. subst (λ z. Decides (passes test (roll-Value z)) (Passes test (roll-Value z))) is (made y))

pub item_decides : (test : Test) (given : Option Value) → Decides (item_passes test given) (ItemPasses test given)
item_decides test None = nothing
item_decides Present (Some given) = always
item_decides (Equal text) (Some given) = passes_decides (Equal text) given
item_decides (Approx text) (Some given) = passes_decides (Approx text) given
item_decides (AtLeast text) (Some given) = passes_decides (AtLeast text) given
item_decides (AtMost text) (Some given) = passes_decides (AtMost text) given
item_decides (Pieces pieces) (Some given) = passes_decides (Pieces pieces) given

-- ---- filters

module _ (same : List ℕ → List ℕ → Bool) (attributes : List Attribute) where
  matches_natural : (X : Type 0) (v : X → Filter) (k : Filter → Type 0) (x : filter.Filter-F X) → ◌≡◌ {A = Type 0} (MatchesBy same attributes X v (λ p. k (v p)) x) (MatchesBy same attributes Filter (λ y. y) k (map-Filter X Filter v x))
  matches_natural X v k (filter.And filters) = all_natural X Filter v k filters
  matches_natural X v k (filter.Or filters) = one_natural X Filter v k filters
  matches_natural X v k (filter.Not one) = refl
  matches_natural X v k (filter.Item name test) = refl

  rolled_filter : (x : filter.Filter-F Filter) → Decides (matches_by same attributes (map-Filter Filter Bool (matches same attributes) x)) (MatchesBy same attributes Filter (λ y. y) (Matches same attributes) x) → Decides (matches same attributes (roll-Filter x)) (Matches same attributes (roll-Filter x))
  rolled_filter x h =
      subst (λ (T : Type 0). Decides (matches same attributes (roll-Filter x)) T) (sym (rec-roll-Filter (Type 0) (MatchesBy same attributes) matches_natural x))
      (subst (λ (b : Bool). Decides b (MatchesBy same attributes Filter (λ y. y) (Matches same attributes) x)) (sym (fold-roll-Filter Bool (matches_by same attributes) x)) h)

  made_filter : (y : filter.Filter-F ((f : Filter) × Decides (matches same attributes f) (Matches same attributes f))) → Decides (matches same attributes (roll-Filter (map-Filter _ Filter (λ e. e.0) y))) (Matches same attributes (roll-Filter (map-Filter _ Filter (λ e. e.0) y)))
  made_filter (filter.And filters) = rolled_filter (filter.And (map (λ e. e.0) filters)) (all_decides (matches same attributes) (Matches same attributes) filters)
  made_filter (filter.Or filters) = rolled_filter (filter.Or (map (λ e. e.0) filters)) (one_decides (matches same attributes) (Matches same attributes) filters)
  made_filter (filter.Not one) = rolled_filter (filter.Not one.0) (Decides-not _ one.1)
  made_filter (filter.Item name test) = rolled_filter (filter.Item name test) (item_decides test (attribute_value same name attributes))

  pub matches_decides : (f : Filter) → Decides (matches same attributes f) (Matches same attributes f)
  matches_decides = ind-Filter (λ f. Decides (matches same attributes f) (Matches same attributes f)) (λ x y is. subst (λ z. Decides (matches same attributes (roll-Filter z)) (Matches same attributes (roll-Filter z))) is (made_filter y))
