-- A word is read as the property that it spells, and only as that.
use Rattle.std.proofs.Common.{◌≡◌, ◌≢◌, ℕ, ◌+◌, List, [], ◌∷◌, ◌++◌, length, take, drop, ap, sym, ◌∙◌, refl, arith, length-append}
use Rattle.std.specs.Prelude.{Bool, true, false, ◌==◌, IfOk, Option, None, Some, option_and_then, Result, Ok, Err, codes}
use Rattle.std.specs.List.{AllPass, list_all}
use Rattle.std.specs.Option.{IfSome, option_map}
use Rattle.std.proofs.Math.Seq.{drop-append-add, drop-append_seam, take-append_seam}
use Rattle.std.proofs.lemmas.Bool.{cond-false, cond-true, eqb-false, eqb-true, ne_eqb, not_from_true, not-false}
use Rattle.std.proofs.lemmas.List.Elements.{All-head}
use Rattle.std.proofs.lemmas.List.Sums.{AllPass-from_list_all, list_all-from_AllPass}
use Rattle.std.proofs.lemmas.Option.{cond_some, option_and_then_some}
use Rattle.osgi_model.specs.laws.TypeNames.{kind_read, kind_sound}
use Rattle.osgi_model.specs.laws.Made.{mapped}
use Rattle.osgi_model.specs.laws.ValueTexts.{result_is, value_read as kind_value_read, value_sound as kind_value_sound}
use Rattle.osgi_model.specs.computed.ValueReader.{kind_named, value_of}
use Rattle.osgi_model.specs.Values.{full, IsOfType, Names, strings}
use Rattle.osgi_model.specs.declared.value_type.ValueType.{ValueType}
use Rattle.osgi_model.specs.declared.value_type.ValueType.TheVariants as value_type
use Rattle.osgi_model.specs.declared.value_type.Scalar.TheVariants as scalar
use Rattle.osgi_model.specs.declared.value.Attribute.{Attribute}
use Rattle.osgi_model.specs.declared.value.Value.{Value}
use Rattle.osgi_model.specs.declared.value.Value.TheVariants.{Text}
use Rattle.osgi_base.specs.laws.Places.{Fails, Found, found, nowhere, position-front, position-none, somewhere}
use Rattle.osgi_base.specs.laws.Quoting.{quoted_read, quoted_sound}
use Rattle.osgi_base.specs.Parts.{scan}
use Rattle.osgi_base.specs.laws.Scans.{other_byte, scan_quoted}
use Rattle.osgi_syntax.specs.laws.Whole.{bare_by, scan-bare, scan_bare}
use Rattle.osgi_syntax.specs.LineWords.{AreLineWords, IsLineWord}
use Rattle.osgi_base.specs.declared.parts.QuoteState.TheVariants.{Bare}
use Rattle.osgi_syntax.specs.PropertyReader.{attribute_of, begins_with_quote, ends_key, is_equals, properties_of, property_by, property_from, property_of, typed_of, value_named, value_text_of}
use Rattle.osgi_syntax.specs.Properties.{AreProperties, bare, is_bare_byte, is_key_byte, IsKey, IsProperty, IsValueText, quoted, typed, untyped}

-- ---- texts of values

value_text_by : (spelled text : List ℕ) (test : Bool) → begins_with_quote spelled ≡ test → value_text_of spelled ≡ Some text → IsValueText spelled text
value_text_by spelled text true quote e = quoted (quoted_sound spelled text (sym (cond-true (begins_with_quote spelled) _ _ quote) ∙ e))
value_text_by spelled text false other e =
    let read = cond_some (list_all is_bare_byte spelled) spelled text (sym (cond-false (begins_with_quote spelled) _ _ other) ∙ e) in
    rw (← read.1) (bare (AllPass-from_list_all is_bare_byte spelled read.0))

value_text_sound : (spelled text : List ℕ) → value_text_of spelled ≡ Some text → IsValueText spelled text
value_text_sound spelled text e = value_text_by spelled text (begins_with_quote spelled) refl e

no_quote : (text : List ℕ) → AllPass is_bare_byte text → begins_with_quote text ≡ false
no_quote [] all = refl
no_quote (b ∷ rest) all = other_byte is_bare_byte 34 b refl (All-head (λ x. is_bare_byte x ≡ true) b rest all)

value_text_read : (spelled text : List ℕ) → IsValueText spelled text → value_text_of spelled ≡ Some text
value_text_read spelled text (quoted is) =
    cond-true (begins_with_quote spelled) _ _ (ap begins_with_quote is.is) ∙ quoted_read spelled text is
value_text_read spelled text (bare all) =
    cond-false (begins_with_quote text) _ _ (no_quote text all) ∙ cond-true (list_all is_bare_byte text) _ _ (list_all-from_AllPass is_bare_byte text all)

scan_value_text : (spelled text : List ℕ) → IsValueText spelled text → scan 32 Bare spelled ≡ Some Bare
scan_value_text spelled text (quoted is) = scan_quoted 32 spelled text is refl
scan_value_text spelled text (bare all) = scan_bare text all

-- ---- values by their types

record IsValue (type text : List ℕ) (value : Value) : Type 0 where
  kind : ValueType
  named : Names type kind
  of_kind : IsOfType kind text value

value_sound : (type text : List ℕ) (value : Value) → value_named type text ≡ Some value → IsValue type text value
value_sound type text value e =
    option_and_then_some (λ kind. value_of kind text) (kind_named type) value e
    (λ kind named is. record { kind = kind; named = kind_sound type kind named; of_kind = kind_value_sound kind text value is })

value_read : (type text : List ℕ) (kind : ValueType) (value : Value) → Names type kind → IsOfType kind text value → value_named type text ≡ Some value
value_read type text kind value named is = ap (option_and_then (λ k. value_of k text)) (kind_read type kind named) ∙ kind_value_read kind text value is

named_by : {E : Type 0} (type text : List ℕ) (k : ValueType) (r : Result (Option Value) E) → Some k ≡ kind_named type → IfOk r (λ read. read ≡ value_of k text) →
    IfOk r (λ read. read ≡ value_named type text)
named_by type text k (Ok read) named is = is ∙ ap (option_and_then (λ k. value_of k text)) named
named_by type text k (Err e) named is = tt

-- what the type of a name reads of a text is the value of the type of this name
pub result_named : {E : Type 0} (type text : List ℕ) (k : ValueType) (r : Result (Option Value) E) → Some k ≡ kind_named type → IfOk r (λ read. IfSome read (IsOfType k text)) →
    ((value : Value) → IsOfType k text value → IfOk r (λ read. read ≡ Some value)) → IfOk r (λ read. read ≡ value_named type text)
result_named type text k r named is only = named_by type text k r named (result_is k text r is only)

type_bytes : (type : List ℕ) (k : ValueType) → Names type k → AllPass is_key_byte type
type_bytes type k (full {kind = value_type.One scalar.String}) = AllPass-from_list_all is_key_byte (codes "String") refl
type_bytes type k (full {kind = value_type.One scalar.Version}) = AllPass-from_list_all is_key_byte (codes "Version") refl
type_bytes type k (full {kind = value_type.One scalar.Long}) = AllPass-from_list_all is_key_byte (codes "Long") refl
type_bytes type k (full {kind = value_type.List scalar.String}) = AllPass-from_list_all is_key_byte (codes "List<String>") refl
type_bytes type k (full {kind = value_type.List scalar.Version}) = AllPass-from_list_all is_key_byte (codes "List<Version>") refl
type_bytes type k (full {kind = value_type.List scalar.Long}) = AllPass-from_list_all is_key_byte (codes "List<Long>") refl
type_bytes type k strings = AllPass-from_list_all is_key_byte (codes "List") refl

-- ---- properties

attribute : List ℕ → Value → Attribute
attribute key value = record { name = key; value = value }

record IsAttribute (key type spelled : List ℕ) (property : Attribute) : Type 0 where
  text : List ℕ
  value : Value
  spells : IsValueText spelled text
  of_type : IsValue type text value
  is : attribute key value ≡ property

attribute_sound : (key type spelled : List ℕ) (property : Attribute) → attribute_of key type spelled ≡ Some property → IsAttribute key type spelled property
unfolding attribute
attribute_sound key type spelled property e =
    option_and_then_some (λ text. option_map (attribute key) (value_named type text)) (value_text_of spelled) property e
    (λ text was made.
    let read = mapped (attribute key) (value_named type text) property made in
    record {
      text = text;
      value = read.value;
      spells = value_text_sound spelled text was;
      of_type = value_sound type text read.value read.was;
      is = read.is;
    })

attribute_read : (key type spelled text : List ℕ) (value : Value) → IsValueText spelled text → value_named type text ≡ Some value → attribute_of key type spelled ≡ Some (attribute key value)
unfolding attribute
attribute_read key type spelled text value spells is =
    ap (option_and_then (λ t. option_map (attribute key) (value_named type t))) (value_text_read spelled text spells)
    ∙ ap (option_map (attribute key)) is

-- a text split at its first `=`
record IsTyped (key rest : List ℕ) (property : Attribute) : Type 0 where
  type : List ℕ
  spelled : List ℕ
  is : rest ≡ type ++ 61 ∷ spelled
  read : attribute_of key type spelled ≡ Some property

typed_read : (key type spelled : List ℕ) → Fails is_equals type → typed_of key (type ++ 61 ∷ spelled) ≡ attribute_of key type spelled
typed_read key type spelled fails =
    rw (position-front is_equals type 61 spelled fails refl, take-append_seam type (61 ∷ spelled), drop-append-add type (61 ∷ spelled) 1) refl

typed_by : (key rest : List ℕ) (property : Attribute) → Found is_equals rest → typed_of key rest ≡ Some property → IsTyped key rest property
typed_by key rest property (nowhere fails) e =
    absurd (cc (e, ap (option_and_then (λ end. attribute_of key (take end rest) (drop (end + 1) rest))) (position-none is_equals rest fails)))
typed_by key rest property (somewhere prefix x back fails passes is) e =
    let split : rest ≡ prefix ++ 61 ∷ back = is ∙ ap (λ b. prefix ++ b ∷ back) (eqb-true x 61 passes) in
    record { type = prefix; spelled = back; is = split; read = sym (typed_read key prefix back fails) ∙ ap (typed_of key) (sym split) ∙ e }

-- a word split at the end of its key
property_at : (key : List ℕ) (b : ℕ) (rest : List ℕ) → Fails ends_key key → ends_key b ≡ true → property_of (key ++ b ∷ rest) ≡ property_by key (b ∷ rest)
property_at key b rest fails passes =
    rw (position-front ends_key key b rest fails passes, take-append_seam key (b ∷ rest), drop-append_seam key (b ∷ rest)) refl

property_rest : (key : List ℕ) (b : ℕ) (rest : List ℕ) → IsKey key → ends_key b ≡ true → property_of (key ++ b ∷ rest) ≡ property_from key (b ∷ rest)
property_rest key b rest is passes =
    property_at key b rest (λ k d below. not_from_true _ (is.1 k d below)) passes
    ∙ cond-false (length key == 0) _ _ (ne_eqb _ 0 (λ e. absurd (omega (arith, e, is.0))))

pub property_read : (word : List ℕ) (property : Attribute) → IsProperty word property → property_of word ≡ Some property
unfolding attribute
property_read word property (untyped {key = key} {spelled = spelled} {text = text} is spells) =
    property_rest key 61 spelled is refl ∙ attribute_read key (codes "String") spelled text (Text text) spells refl
property_read word property (typed {key = key} {type = type} {spelled = spelled} {text = text} {kind = kind} {value = value} is named spells of_kind) =
    property_rest key 58 (type ++ 61 ∷ spelled) is refl
    ∙ typed_read key type spelled (λ k d below. other_byte is_key_byte 61 _ refl (type_bytes type kind named k d below))
    ∙ attribute_read key type spelled text value spells (value_read type text kind value named of_kind)

string_is : (text : List ℕ) (value : Value) → IsValue (codes "String") text value → value ≡ Text text
string_is text value is = cc (value_read (codes "String") text is.kind value is.named is.of_kind)

property_untyped : (key spelled : List ℕ) (property : Attribute) → IsKey key → IsAttribute key (codes "String") spelled property → IsProperty (key ++ 61 ∷ spelled) property
unfolding attribute
property_untyped key spelled property key_is is =
    rw (← is.is, string_is is.text is.value is.of_type) (untyped {key = key} {spelled = spelled} key_is is.spells)

property_typed : (key rest : List ℕ) (property : Attribute) → IsKey key → IsTyped key rest property → IsProperty (key ++ 58 ∷ rest) property
unfolding attribute
property_typed key rest property key_is is =
    let made = attribute_sound key is.type is.spelled property is.read in
    rw (is.is, ← made.is) (typed {key = key} {type = is.type} {spelled = is.spelled} key_is made.of_type.named made.spells made.of_type.of_kind)

property_by_byte : (key : List ℕ) (b : ℕ) (rest : List ℕ) (property : Attribute) (equal colons : Bool) → (b == 61) ≡ equal → (b == 58) ≡ colons → IsKey key →
    property_from key (b ∷ rest) ≡ Some property → IsProperty (key ++ b ∷ rest) property
property_by_byte key b rest property true colons equals colon is e =
    rw (eqb-true b 61 equals)
    (property_untyped key rest property is (attribute_sound key (codes "String") rest property (sym (cond-true (b == 61) _ _ equals) ∙ e)))
property_by_byte key b rest property false true equals colon is e =
    rw (eqb-true b 58 colon)
    (property_typed key rest property is (typed_by key rest property (found is_equals rest) (sym (cond-true (b == 58) _ _ colon) ∙ sym (cond-false (b == 61) _ _ equals) ∙ e)))
property_by_byte key b rest property false false equals colon is e =
    absurd (cc (e, cond-false (b == 61) (attribute_of key (codes "String") rest) _ equals ∙ cond-false (b == 58) (typed_of key rest) None colon))

property_by_key : (key : List ℕ) (b : ℕ) (rest : List ℕ) (property : Attribute) (test : Bool) → (length key == 0) ≡ test → AllPass is_key_byte key →
    property_by key (b ∷ rest) ≡ Some property → IsProperty (key ++ b ∷ rest) property
property_by_key key b rest property true none all e = absurd (cc (e, cond-true (length key == 0) None (property_from key (b ∷ rest)) none))
property_by_key key b rest property false some all e =
    let ne : length key ≢ 0 = eqb-false (length key) 0 some in
    property_by_byte key b rest property _ _ refl refl (omega (arith, ne), all) (sym (cond-false (length key == 0) _ _ some) ∙ e)

property_found : (word : List ℕ) (property : Attribute) → Found ends_key word → property_of word ≡ Some property → IsProperty word property
property_found word property (nowhere fails) e =
    absurd (cc (e, ap (option_and_then (λ end. property_by (take end word) (drop end word))) (position-none ends_key word fails)))
property_found word property (somewhere key b rest fails passes is) e =
    rw is
    (property_by_key key b rest property (length key == 0) refl (λ k d below. not-false _ (fails k d below))
    (sym (property_at key b rest fails passes) ∙ ap property_of (sym is) ∙ e))

pub property_sound : (word : List ℕ) (property : Attribute) → property_of word ≡ Some property → IsProperty word property
property_sound word property e = property_found word property (found ends_key word) e

pub whole_property : (word : List ℕ) (property : Attribute) → IsProperty word property → IsLineWord word
whole_property word property (untyped {key = key} {spelled = spelled} {text = text} is spells) = record {
  some = omega (arith, is.0, length-append key (61 ∷ spelled));
  scanned = scan-bare key (61 ∷ spelled) (bare_by is_key_byte key refl refl is.1) ∙ scan_value_text spelled text spells;
}
whole_property word property (typed {key = key} {type = type} {spelled = spelled} {text = text} {kind = kind} is named spells of_kind) = record {
  some = omega (arith, is.0, length-append key (58 ∷ type ++ 61 ∷ spelled));
  scanned =
      scan-bare key (58 ∷ type ++ 61 ∷ spelled) (bare_by is_key_byte key refl refl is.1)
      ∙ scan-bare type (61 ∷ spelled) (bare_by is_key_byte type refl refl (type_bytes type kind named))
      ∙ scan_value_text spelled text spells;
}

-- ---- all properties of a line

pub properties_read : (words : List (List ℕ)) (properties : List Attribute) → AreProperties words properties → properties_of words ≡ Some properties
properties_read [] [] are = refl
properties_read [] (property ∷ properties) are = absurd are
properties_read (word ∷ words) [] are = absurd are
properties_read (word ∷ words) (property ∷ properties) are =
    rw (property_read word property are.0, properties_read words properties are.1) refl

pub properties_sound : (words : List (List ℕ)) (properties : List Attribute) → properties_of words ≡ Some properties → AreProperties words properties
properties_sound [] [] e = tt
properties_sound [] (property ∷ properties) e = absurd (cc e)
properties_sound (word ∷ words) properties e =
    option_and_then_some (λ first. option_map (λ rest. first ∷ rest) (properties_of words)) (property_of word) properties e
    (λ first was made.
    let read = mapped (λ rest. first ∷ rest) (properties_of words) properties made in
    rw (← read.is) (property_sound word first was, properties_sound words read.value read.was))

pub whole_properties : (words : List (List ℕ)) (properties : List Attribute) → AreProperties words properties → AreLineWords words
whole_properties [] properties are = tt
whole_properties (word ∷ words) [] are = absurd are
whole_properties (word ∷ words) (property ∷ properties) are = (whole_property word property are.0, whole_properties words properties are.1)
