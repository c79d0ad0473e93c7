-- What the values of a clause's attributes make of its verdict.
use Rattle.std.proofs.Common.{◌≡◌, List, ◌∷◌, sym, ◌∙◌, refl}
use Rattle.std.specs.Prelude.{Bool, true, false, cond, All, filter, Option, None, Some, Result, Ok, Err}
use Rattle.std.specs.List.{AllZip, list_any}
use Rattle.std.specs.Option.{ok_or}
use Rattle.std.proofs.lemmas.Bool.{false≢true}
use Rattle.osgi_base.specs.Verdict.{Gives, Verdict, Where, refuses}
use Rattle.osgi_header.specs.declared.clause.Clause.{Clause}
use Rattle.osgi_model.specs.declared.value.Attribute.{Attribute}
use Rattle.osgi_package.specs.Only.{IsOnly}
use Rattle.osgi_package.specs.computed.AttributeReader.{attributes_of, others_of}
use Rattle.osgi_package.specs.declared.fault.PackageKind.{PackageKind}
use Rattle.osgi_package.specs.declared.fault.PackageKind.TheVariants.{BadValue, DoubleType}
use Rattle.osgi_package.specs.Parameters.{IsReadableAttribute, IsAttribute, is_double, is_plain_attribute}
use Rattle.osgi_package.specs.laws.Verdicts.{first_only, rest_only}
use Rattle.osgi_package.proofs.Reading.{others_read, others_sound}

-- the other attributes, where all have values and none is a Double, or what is wrong
pub data Valued (clause : Clause) : Result (List Attribute) PackageKind → Type 0 where
  double : list_any is_double clause.attributes ≡ true → Valued clause (Err DoubleType)
  bad : list_any is_double clause.attributes ≡ false → ¬ All IsReadableAttribute clause.attributes → Valued clause (Err BadValue)
  good : {others : List Attribute} → list_any is_double clause.attributes ≡ false → All IsReadableAttribute clause.attributes →
      AllZip IsAttribute (filter is_plain_attribute clause.attributes) others → Valued clause (Ok others)

none_valued : (clause : Clause) → others_of clause.attributes ≡ None → ¬ All IsReadableAttribute clause.attributes
none_valued clause e all =
    let read = others_read clause.attributes all in
    cc (sym e ∙ read.1)

plain_valued : (clause : Clause) (others : Option (List Attribute)) → list_any is_double clause.attributes ≡ false → others_of clause.attributes ≡ others → Valued clause (ok_or others BadValue)
plain_valued clause None plain e = bad plain (none_valued clause e)
plain_valued clause (Some others) plain e =
    let read = others_sound clause.attributes others e in
    good plain read.values read.are

valued_by : (clause : Clause) (test : Bool) → list_any is_double clause.attributes ≡ test → Valued clause (cond test (Err DoubleType) (ok_or (others_of clause.attributes) BadValue))
valued_by clause true e = double e
valued_by clause false e = plain_valued clause (others_of clause.attributes) e refl

pub valued : (clause : Clause) → Valued clause (attributes_of clause)
valued clause = valued_by clause (list_any is_double clause.attributes) refl

-- ---- the verdict, where all attributes have values, and where they do not

pub past_values : {A : Type 0} (clause : Clause) (rest : List (PackageKind → Type 0)) (answer : A → Type 0) (v : Verdict PackageKind A) → list_any is_double clause.attributes ≡ false →
    All IsReadableAttribute clause.attributes → IsOnly (Gives rest answer) v →
    IsOnly (Gives (Where DoubleType (list_any is_double clause.attributes ≡ true) ∷ Where BadValue (¬ All IsReadableAttribute clause.attributes) ∷ rest) answer) v
past_values clause rest answer v plain all is =
    rest_only DoubleType (list_any is_double clause.attributes ≡ true) (Where BadValue (¬ All IsReadableAttribute clause.attributes) ∷ rest) answer v (λ e. false≢true (sym plain ∙ e))
    (rest_only BadValue (¬ All IsReadableAttribute clause.attributes) rest answer v (λ fails. fails all) is)

pub double_value : {A : Type 0} (clause : Clause) (rest : List (PackageKind → Type 0)) (answer : A → Type 0) → list_any is_double clause.attributes ≡ true →
    IsOnly (Gives (Where DoubleType (list_any is_double clause.attributes ≡ true) ∷ Where BadValue (¬ All IsReadableAttribute clause.attributes) ∷ rest) answer) (refuses DoubleType)
double_value clause rest answer e = first_only DoubleType (list_any is_double clause.attributes ≡ true) (Where BadValue (¬ All IsReadableAttribute clause.attributes) ∷ rest) answer e

pub bad_value : {A : Type 0} (clause : Clause) (rest : List (PackageKind → Type 0)) (answer : A → Type 0) → list_any is_double clause.attributes ≡ false → ¬ All IsReadableAttribute clause.attributes →
    IsOnly (Gives (Where DoubleType (list_any is_double clause.attributes ≡ true) ∷ Where BadValue (¬ All IsReadableAttribute clause.attributes) ∷ rest) answer) (refuses BadValue)
bad_value clause rest answer plain fails =
    rest_only DoubleType (list_any is_double clause.attributes ≡ true) (Where BadValue (¬ All IsReadableAttribute clause.attributes) ∷ rest) answer (refuses BadValue) (λ e. false≢true (sym plain ∙ e))
    (first_only BadValue (¬ All IsReadableAttribute clause.attributes) rest answer fails)
