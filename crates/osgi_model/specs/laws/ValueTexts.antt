-- A text is read as the value of a type that it stands for, and only as that.
use Rattle.std.proofs.Common.{◌≡◌, ℕ, List, [], ◌∷◌, ap, sym, ◌∙◌, refl}
use Rattle.std.specs.Prelude.{IfOk, Option, None, Some, Result, Ok, Err}
use Rattle.std.specs.Option.{IfSome, option_map}
use Rattle.std.proofs.lemmas.Option.{option_and_then_some}
use Rattle.osgi_model.specs.Values.{AreScalars, IsOfType, IsScalar, list, long, one, string, version}
use Rattle.osgi_model.specs.computed.ValueReader.{elements_of, scalar_of, scalars_of, value_of}
use Rattle.osgi_model.specs.computed.LongReader.{long_of}
use Rattle.osgi_model.specs.computed.VersionReader.{version_of}
use Rattle.osgi_model.specs.declared.value_type.ValueType.{ValueType}
use Rattle.osgi_model.specs.declared.value_type.ValueType.TheVariants as value_type
use Rattle.osgi_model.specs.declared.value_type.Scalar.{Scalar}
use Rattle.osgi_model.specs.declared.value_type.Scalar.TheVariants as scalar
use Rattle.osgi_model.specs.declared.value.Value.{Value}
use Rattle.osgi_model.specs.declared.value.Value.TheVariants as value
use Rattle.osgi_model.specs.laws.ElementTexts.{elements_read, elements_sound}
use Rattle.osgi_model.specs.laws.Longs.{long_read, long_sound}
use Rattle.osgi_model.specs.laws.Made.{mapped}
use Rattle.osgi_model.specs.laws.VersionTexts.{version_read, version_sound}

scalar_sound : (s : Scalar) (text : List ℕ) (v : Value) → scalar_of s text ≡ Some v → IsScalar s text v
scalar_sound scalar.String text v e =
    let is : value.Text text ≡ v = cc e in
    rw (← is) string
scalar_sound scalar.Version text v e =
    let read = mapped value.Version (version_of text) v e in
    rw (← read.is) (version (version_sound text read.value read.was))
scalar_sound scalar.Long text v e =
    let read = mapped value.Long (long_of text) v e in
    rw (← read.is) (long (long_sound text read.value read.was))

scalar_read : (s : Scalar) (text : List ℕ) (v : Value) → IsScalar s text v → scalar_of s text ≡ Some v
scalar_read s text v string = refl
scalar_read s text v (version {version = w} reads) = ap (option_map value.Version) (version_read text w reads)
scalar_read s text v (long {number = number} is) = ap (option_map value.Long) (long_read text number is)

scalars_sound : (s : Scalar) (texts : List (List ℕ)) (values : List Value) → scalars_of s texts ≡ Some values → AreScalars s texts values
scalars_sound s [] [] e = tt
scalars_sound s [] (v ∷ values) e = absurd (cc e)
scalars_sound s (text ∷ texts) values e =
    option_and_then_some (λ first. option_map (λ rest. first ∷ rest) (scalars_of s texts)) (scalar_of s text) values e
    (λ first was made.
    let read = mapped (λ rest. first ∷ rest) (scalars_of s texts) values made in
    rw (← read.is) (scalar_sound s text first was, scalars_sound s texts read.value read.was))

scalars_read : (s : Scalar) (texts : List (List ℕ)) (values : List Value) → AreScalars s texts values → scalars_of s texts ≡ Some values
scalars_read s [] [] are = refl
scalars_read s [] (v ∷ values) are = absurd are
scalars_read s (text ∷ texts) [] are = absurd are
scalars_read s (text ∷ texts) (v ∷ values) are = rw (scalar_read s text v are.0, scalars_read s texts values are.1) refl

pub value_sound : (k : ValueType) (text : List ℕ) (v : Value) → value_of k text ≡ Some v → IsOfType k text v
value_sound (value_type.One s) text v e = one (scalar_sound s text v e)
value_sound (value_type.List s) text v e =
    let read = mapped value.List (scalars_of s (elements_of text)) v e in
    rw (← read.is) (list read.value (elements_sound text) (scalars_sound s (elements_of text) read.value read.was))

pub value_read : (k : ValueType) (text : List ℕ) (v : Value) → IsOfType k text v → value_of k text ≡ Some v
value_read k text v (one {scalar = s} is) = scalar_read s text v is
value_read k text v (list {scalar = s} {texts = texts} values elements are) =
    ap (λ l. option_map value.List (scalars_of s l)) (elements_read elements) ∙ ap (option_map value.List) (scalars_read s texts values are)

reads_some : (k : ValueType) (text : List ℕ) (r : Option Value) → r ≡ value_of k text → IfSome r (IsOfType k text)
reads_some k text None e = tt
reads_some k text (Some v) e = value_sound k text v (sym e)

pub result_reads : {E : Type 0} (k : ValueType) (text : List ℕ) (r : Result (Option Value) E) → IfOk r (λ read. read ≡ value_of k text) → IfOk r (λ read. IfSome read (IsOfType k text))
result_reads k text (Ok read) is = reads_some k text read is
result_reads k text (Err e) is = tt

pub result_only : {E : Type 0} (k : ValueType) (text : List ℕ) (r : Result (Option Value) E) → IfOk r (λ read. read ≡ value_of k text) → (v : Value) → IsOfType k text v →
    IfOk r (λ read. read ≡ Some v)
result_only k text (Ok read) is v stands = is ∙ value_read k text v stands
result_only k text (Err e) is v stands = tt

-- an answer that is the value just where the text stands for it is what is computed here
value_by : (k : ValueType) (text : List ℕ) (r o : Option Value) → value_of k text ≡ o → IfSome r (IsOfType k text) → ((v : Value) → IsOfType k text v → r ≡ Some v) →
    r ≡ value_of k text
value_by k text (Some v) o e is only = sym (value_read k text v is)
value_by k text None None e is only = sym e
value_by k text None (Some v) e is only = only v (value_sound k text v e) ∙ sym e

value_is : (k : ValueType) (text : List ℕ) (r : Option Value) → IfSome r (IsOfType k text) → ((v : Value) → IsOfType k text v → r ≡ Some v) → r ≡ value_of k text
value_is k text r is only = value_by k text r (value_of k text) refl is only

pub result_is : {E : Type 0} (k : ValueType) (text : List ℕ) (r : Result (Option Value) E) → IfOk r (λ read. IfSome read (IsOfType k text)) →
    ((v : Value) → IsOfType k text v → IfOk r (λ read. read ≡ Some v)) → IfOk r (λ read. read ≡ value_of k text)
result_is k text (Ok read) is only = value_is k text read is only
result_is k text (Err e) is only = tt
