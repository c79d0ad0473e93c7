-- Attributes are read as the values that they stand for.
use Rattle.std.proofs.Common.{◌≡◌, ◌<◌, ◌+◌, ℕ, List, [], ◌∷◌, ◌++◌, length, drop, get_or, ap, sym, ◌∙◌, refl, suc, add-one, arith, append_assoc, append-nil, drop-cons, subst}
use Rattle.std.specs.Prelude.{Bool, true, false, ◌↔◌, All, filter, Option, None, Some, option_and_then, Ok}
use Rattle.std.specs.List.{AllZip}
use Rattle.std.specs.Option.{IfSome, option_map}
use Rattle.std.proofs.lemmas.Bool.{cond-false, cond-true}
use Rattle.std.proofs.lemmas.List.Elements.{All-cons, All-head, All-tail}
use Rattle.std.proofs.lemmas.Option.{option_and_then_some}
use Rattle.osgi_header.specs.declared.clause.Typed.{Typed}
use Rattle.osgi_model.specs.computed.ValueReader.{kind_named, value_of}
use Rattle.osgi_model.specs.declared.value.Attribute.{Attribute}
use Rattle.osgi_model.specs.declared.value.Value.{Value}
use Rattle.osgi_model.specs.laws.Made.{mapped}
use Rattle.osgi_model.specs.declared.value_type.ValueType.{ValueType}
use Rattle.osgi_model.specs.laws.TypeNames.{kind_is, kind_read, kind_sound}
use Rattle.osgi_model.specs.laws.ValueTexts.{result_is, value_read, value_sound}
use Rattle.osgi_model.specs.Values.{IsOfType, Names}
use Rattle.osgi_package.specs.computed.AttributeReader.{attribute_of, others_of, others_onto, values_of, with_other}
use Rattle.osgi_package.specs.Parameters.{IsReadableAttribute, IsAttribute, is_plain_attribute}

-- ---- one more attribute

onto_by : (others : List Attribute) (typed : Typed) (attribute : Attribute) (rest : List Attribute) (test : Bool) → is_plain_attribute typed ≡ test →
    others ++ with_other typed attribute rest ≡ (others ++ with_other typed attribute []) ++ rest
onto_by others typed attribute rest true e =
    ap (λ l. others ++ l) (cond-true (is_plain_attribute typed) (attribute ∷ rest) rest e) ∙ sym (append_assoc others (attribute ∷ []) rest)
    ∙ ap (λ l. (others ++ l) ++ rest) (sym (cond-true (is_plain_attribute typed) (attribute ∷ []) [] e))
onto_by others typed attribute rest false e =
    ap (λ l. others ++ l) (cond-false (is_plain_attribute typed) (attribute ∷ rest) rest e) ∙ ap (λ l. l ++ rest) (sym (append-nil others))
    ∙ ap (λ l. (others ++ l) ++ rest) (sym (cond-false (is_plain_attribute typed) (attribute ∷ []) [] e))

onto_some : (others : List Attribute) (typed : Typed) (attribute : Attribute) (rest : Option (List Attribute)) →
    others_onto others (option_map (with_other typed attribute) rest) ≡ others_onto (others ++ with_other typed attribute []) rest
onto_some others typed attribute None = refl
onto_some others typed attribute (Some rest) = ap Some (onto_by others typed attribute rest (is_plain_attribute typed) refl)

pub others_more : (others : List Attribute) (typed : Typed) (attribute : Attribute) (rest : List Typed) → Some attribute ≡ attribute_of typed →
    others_onto (others ++ with_other typed attribute []) (others_of rest) ≡ others_onto others (others_of (typed ∷ rest))
others_more others typed attribute rest is =
    sym (onto_some others typed attribute (others_of rest))
    ∙ ap (λ o. others_onto others (option_and_then (λ a. option_map (with_other typed a) (others_of rest)) o)) is

pub others_step : (xs : List Typed) (i : ℕ) (typed : Typed) (attribute : Attribute) (others : List Attribute) → i < length xs → typed ≡ get_or xs i typed → Some attribute ≡ attribute_of typed →
    others_onto others (others_of (drop i xs)) ≡ others_of xs → others_onto (others ++ with_other typed attribute []) (others_of (drop (i + 1) xs)) ≡ others_of xs
others_step xs i typed attribute others below is read so_far =
    let split : drop i xs ≡ typed ∷ drop (i + 1) xs = rw add-one (drop-cons xs i typed below ∙ ap (λ t. t ∷ drop (suc i) xs) (sym is)) in
    others_more others typed attribute (drop (i + 1) xs) read ∙ ap (λ l. others_onto others (others_of l)) (sym split) ∙ so_far

-- ---- one attribute

abbrev pub with_value : Typed → Value → Attribute
with_value typed value = record { name = typed.name; value = value }

pub attribute_none : (typed : Typed) (name : List ℕ) → name ≡ typed.kind → ((k : ValueType) → (None ≡ Some k) ↔ Names name k) → None ≡ attribute_of typed
attribute_none typed name is named =
    ap (λ k. option_map (with_value typed) (option_and_then (λ kind. value_of kind typed.value) k)) (kind_is name None named ∙ ap kind_named is)

pub attribute_with : (typed : Typed) (name text : List ℕ) (k : ValueType) (read : Option Value) → name ≡ typed.kind → text ≡ typed.value →
    ((j : ValueType) → (Some k ≡ Some j) ↔ Names name j) → IfSome read (IsOfType k text) → ((v : Value) → IsOfType k text v → read ≡ Some v) →
    option_map (with_value typed) read ≡ attribute_of typed
attribute_with typed name text k read is text_is named reads only =
    let valued : read ≡ value_of k text = result_is {E = ℕ} k text (Ok read) reads only in
    ap (option_map (with_value typed)) (valued ∙ ap (value_of k) text_is)
    ∙ ap (λ o. option_map (with_value typed) (option_and_then (λ kind. value_of kind typed.value) o)) (kind_is name (Some k) named ∙ ap kind_named is)

-- ---- what is read is what the attributes say

attribute_sound : (typed : Typed) (attribute : Attribute) → attribute_of typed ≡ Some attribute → IsAttribute typed attribute
attribute_sound typed attribute e =
    let read = mapped (λ value. record { name = typed.name; value = value }) (option_and_then (λ kind. value_of kind typed.value) (kind_named typed.kind)) attribute e in
    rw (← read.is)
    (option_and_then_some (λ kind. value_of kind typed.value) (kind_named typed.kind) read.value read.was
    (λ kind named valued. record { kind = kind; named = kind_sound typed.kind kind named; name = refl; value = value_sound kind typed.value read.value valued }))

attribute_read : (typed : Typed) (attribute : Attribute) → IsAttribute typed attribute → attribute_of typed ≡ Some attribute
attribute_read typed attribute is =
    ap (λ k. option_map (λ value. record { name = typed.name; value = value }) (option_and_then (λ kind. value_of kind typed.value) k)) (kind_read typed.kind is.kind is.named)
    ∙ ap (option_map (λ value. record { name = typed.name; value = value })) (value_read is.kind typed.value attribute.value is.value)
    ∙ (λ i. Some (record { name = sym is.name i; value = attribute.value }))

-- the other attributes, where all have values; and where one has none
others_by : (typed : Typed) (attribute : Attribute) (rest : List Typed) (others more : List Attribute) (test : Bool) → is_plain_attribute typed ≡ test → IsAttribute typed attribute →
    AllZip IsAttribute (filter is_plain_attribute rest) more → with_other typed attribute more ≡ others → AllZip IsAttribute (filter is_plain_attribute (typed ∷ rest)) others
others_by typed attribute rest others more true e is are made =
    rw (cond-true (is_plain_attribute typed) (typed ∷ filter is_plain_attribute rest) (filter is_plain_attribute rest) e, ← made, cond-true (is_plain_attribute typed) (attribute ∷ more) more e) (is, are)
others_by typed attribute rest others more false e is are made =
    rw (cond-false (is_plain_attribute typed) (typed ∷ filter is_plain_attribute rest) (filter is_plain_attribute rest) e, ← made, cond-false (is_plain_attribute typed) (attribute ∷ more) more e) are

pub record AreOthers (attributes : List Typed) (others : List Attribute) : Type 0 where
  pub values : All IsReadableAttribute attributes
  pub are : AllZip IsAttribute (filter is_plain_attribute attributes) others

pub others_sound : (attributes : List Typed) (others : List Attribute) → others_of attributes ≡ Some others → AreOthers attributes others
others_sound [] others e =
    let is : [] ≡ others = cc e in
    record { values = λ k d below. absurd (omega arith); are = subst (AllZip IsAttribute []) is tt }
others_sound (typed ∷ rest) others e =
    option_and_then_some (λ attribute. option_map (with_other typed attribute) (others_of rest)) (attribute_of typed) others e
    (λ attribute was made.
    let read = mapped (with_other typed attribute) (others_of rest) others made in
    let more = others_sound rest read.value read.was in
    let is = attribute_sound typed attribute was in
    record {
      values = All-cons IsReadableAttribute typed rest (attribute, is) more.values;
      are = others_by typed attribute rest others read.value (is_plain_attribute typed) refl is more.are read.is;
    })

pub others_read : (attributes : List Typed) → All IsReadableAttribute attributes → (others : List Attribute) × (others_of attributes ≡ Some others)
others_read [] all = ([], refl)
others_read (typed ∷ rest) all =
    let first = All-head IsReadableAttribute typed rest all in
    let more = others_read rest (All-tail IsReadableAttribute typed rest all) in
    (with_other typed first.0 more.0, rw (attribute_read typed first.0 first.1, more.1) refl)

-- attributes have one reading
pub attributes_one : (attributes : List Typed) (some others : List Attribute) → AllZip IsAttribute attributes some → AllZip IsAttribute attributes others → some ≡ others
attributes_one [] [] [] are all = refl
attributes_one [] (a ∷ some) others are all = absurd are
attributes_one [] [] (b ∷ others) are all = absurd all
attributes_one (typed ∷ rest) [] others are all = absurd are
attributes_one (typed ∷ rest) (a ∷ some) [] are all = absurd all
attributes_one (typed ∷ rest) (a ∷ some) (b ∷ others) are all =
    let first : a ≡ b = cc (sym (attribute_read typed a are.0) ∙ attribute_read typed b all.0) in
    λ i. first i ∷ attributes_one rest some others are.1 all.1 i

-- ---- all attributes

pub values_sound : (attributes : List Typed) (values : List Attribute) → values_of attributes ≡ Some values → AllZip IsAttribute attributes values
values_sound [] values e =
    let is : [] ≡ values = cc e in
    subst (AllZip IsAttribute []) is tt
values_sound (typed ∷ rest) values e =
    option_and_then_some (λ attribute. option_map (λ more. attribute ∷ more) (values_of rest)) (attribute_of typed) values e
    (λ attribute was made.
    let read = mapped (λ more. attribute ∷ more) (values_of rest) values made in
    subst (AllZip IsAttribute (typed ∷ rest)) read.is (attribute_sound typed attribute was, values_sound rest read.value read.was))

pub values_read : (attributes : List Typed) (values : List Attribute) → AllZip IsAttribute attributes values → values_of attributes ≡ Some values
values_read [] [] are = refl
values_read [] (v ∷ values) are = absurd are
values_read (typed ∷ rest) [] are = absurd are
values_read (typed ∷ rest) (v ∷ values) are =
    ap (option_and_then (λ attribute. option_map (λ more. attribute ∷ more) (values_of rest))) (attribute_read typed v are.0)
    ∙ ap (option_map (λ more. v ∷ more)) (values_read rest values are.1)
