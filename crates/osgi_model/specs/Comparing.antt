-- Values and attributes compared: what is computed of two, and that this says whether they are the same.
use Rattle.std.specs.Prelude.{◌≡◌, ◌&&◌, ◌==◌, Bool, true, false, List, [], ◌∷◌, map}
use Rattle.std.specs.Cmp.{first_so, second_so}
use Rattle.std.specs.Cmp.Lexicographic.{pointwise, bytes_decides}
use Rattle.std.specs.Ordering.{int_eq}
use Rattle.std.proofs.Common.{refl, sym, ap, subst, ◌∙◌}
use Rattle.std.proofs.lemmas.Bool.{false≢true}
use Rattle.std.proofs.lemmas.Bool.Decides.{Decides-int_eq}
use Rattle.osgi_base.specs.computed.Exact.{IsExact, exact_on, exact_pair}
use Rattle.osgi_version.specs.Comparing.{exact_version, version_eq}
use Rattle.osgi_model.specs.declared.value.Attribute.{Attribute}
use Rattle.osgi_model.specs.declared.value.Value.{Value, out-Value, roll-Value, out-roll-Value, roll-out-Value}
use Rattle.osgi_model.specs.declared.value.Value.TheFolds.{fold-Value, fold-roll-Value, ind-Value, map-Value}
use Rattle.osgi_model.specs.declared.value.Value.TheOpen.{Value-F, Text, Long, Version, List as Values}

-- there are as many values as tests, and each passes its test
abbrev pub each_passes : {X : Type 0} → List (X → Bool) → List X → Bool
each_passes [] [] = true
each_passes [] (x ∷ xs) = false
each_passes (test ∷ tests) [] = false
each_passes (test ∷ tests) (x ∷ xs) = test x && each_passes tests xs

abbrev pub layer_eq : Value-F (Value → Bool) → Value-F Value → Bool
layer_eq (Text one) (Text other) = pointwise ◌==◌ one other
layer_eq (Long one) (Long other) = int_eq one other
layer_eq (Version one) (Version other) = version_eq one other
layer_eq (Values one) (Values other) = each_passes one other
layer_eq _ _ = false

abbrev pub step_eq : Value-F (Value → Bool) → Value → Bool
step_eq one other = layer_eq one (out-Value other)

abbrev pub value_eq : Value → Value → Bool
value_eq = fold-Value (Value → Bool) step_eq

-- ---- equal values are the same

-- a value that equals itself, and that no other equals
abbrev pub EqualsItself : Value → Type 0
EqualsItself v = ((w : Value) → value_eq v w ≡ true → v ≡ w) × (value_eq v v ≡ true)

abbrev pub SelfEqual : Type 0
SelfEqual = (v : Value) × EqualsItself v

each_told : (all : List SelfEqual) (ws : List Value) → each_passes (map value_eq (map (λ (t : SelfEqual). t.0) all)) ws ≡ true → map (λ (t : SelfEqual). t.0) all ≡ ws
each_told [] [] h = refl
each_told [] (w ∷ ws) h = absurd (false≢true h)
each_told (t ∷ all) [] h = absurd (false≢true h)
each_told (t ∷ all) (w ∷ ws) h = λ i. t.1.0 w (first_so (value_eq t.0 w) _ h) i ∷ each_told all ws (second_so (value_eq t.0 w) _ h) i

each_itself : (all : List SelfEqual) → each_passes (map value_eq (map (λ (t : SelfEqual). t.0) all)) (map (λ (t : SelfEqual). t.0) all) ≡ true
each_itself [] = refl
each_itself (t ∷ all) = λ i. t.1.1 i && each_itself all i

abbrev values_in : Value-F SelfEqual → Value-F Value
values_in = map-Value SelfEqual Value (λ (t : SelfEqual). t.0)

abbrev tests_of : Value-F Value → Value-F (Value → Bool)
tests_of = map-Value Value (Value → Bool) value_eq

layer_told : (y : Value-F SelfEqual) (other : Value-F Value) → layer_eq (tests_of (values_in y)) other ≡ true → values_in y ≡ other
layer_told (Text one) (Text other) h = ap Text ((bytes_decides one other).0 h)
layer_told (Long one) (Long other) h = ap Long ((Decides-int_eq one other).0 h)
layer_told (Version one) (Version other) h = ap Version ((exact_version one other).0 h)
layer_told (Values one) (Values other) h = ap Values (each_told one other h)
layer_told _ _ h = absurd (false≢true h)

layer_itself : (y : Value-F SelfEqual) → layer_eq (tests_of (values_in y)) (values_in y) ≡ true
layer_itself (Text one) = (bytes_decides one one).1 refl
layer_itself (Long one) = (Decides-int_eq one one).1 refl
layer_itself (Version one) = (exact_version one one).1 refl
layer_itself (Values one) = each_itself one

opened : (x : Value-F Value) (w : Value) → value_eq (roll-Value x) w ≡ layer_eq (tests_of x) (out-Value w)
opened x w = ap (λ (f : Value → Bool). f w) (fold-roll-Value (Value → Bool) step_eq x)

made : (y : Value-F SelfEqual) → EqualsItself (roll-Value (values_in y))
made y = (
  λ w h. ap roll-Value (layer_told y (out-Value w) (sym (opened (values_in y) w) ∙ h)) ∙ roll-out-Value w,
  opened (values_in y) (roll-Value (values_in y)) ∙ ap (layer_eq (tests_of (values_in y))) (out-roll-Value (values_in y)) ∙ layer_itself y,
)

told : (v : Value) → EqualsItself v
told = ind-Value EqualsItself (λ x y is. subst (λ z. EqualsItself (roll-Value z)) is (made y))

pub exact_value : IsExact value_eq
exact_value v w = ((told v).0 w, λ e. subst (λ z. value_eq v z ≡ true) e (told v).1)

abbrev pub attribute_eq : Attribute → Attribute → Bool
attribute_eq a b = pointwise ◌==◌ a.name b.name && value_eq a.value b.value

pub exact_attribute : IsExact attribute_eq
exact_attribute = exact_on (λ (a : Attribute). (a.name, a.value)) (λ p. record { name = p.0; value = p.1 }) (λ a. refl) _ (exact_pair (pointwise ◌==◌) value_eq bytes_decides exact_value)
