-- The types of values by their names, and which texts stand for which values of a type.
use Rattle.std.specs.Prelude.{ℕ, List, [], ◌∷◌, ◌++◌, codes, ℤ}
use Rattle.osgi_version.specs.VersionValues.{parts}
use Rattle.osgi_version.specs.Versions.{ReadsVersion}
use Rattle.osgi_version.specs.declared.version.Version.{Version}
use Rattle.osgi_model.specs.Elements.{AreElements}
use Rattle.osgi_model.specs.Longs.{IsLong}
use Rattle.osgi_model.specs.declared.value_type.ValueType.{ValueType}
use Rattle.osgi_model.specs.declared.value_type.ValueType.TheVariants as value_type
use Rattle.osgi_model.specs.declared.value_type.Scalar.{Scalar}
use Rattle.osgi_model.specs.declared.value_type.Scalar.TheVariants as scalar
use Rattle.osgi_model.specs.declared.value.Value.{Value}
use Rattle.osgi_model.specs.declared.value.Value.TheVariants as value

abbrev pub scalar_name : Scalar → List ℕ
scalar_name scalar.String = codes "String"
scalar_name scalar.Version = codes "Version"
scalar_name scalar.Long = codes "Long"

abbrev pub type_name : ValueType → List ℕ
type_name (value_type.One scalar) = scalar_name scalar
type_name (value_type.List scalar) = codes "List<" ++ (scalar_name scalar ++ codes ">")

-- the name of a type; `List` alone is a list of strings
pub data Names : List ℕ → ValueType → Type 0 where
  full : {kind : ValueType} → Names (type_name kind) kind
  strings : Names (codes "List") (value_type.List scalar.String)

-- what a text stands for as a value of a type that is no list
pub data IsScalar : Scalar → List ℕ → Value → Type 0 where
  string : {text : List ℕ} → IsScalar scalar.String text (value.Text text)
  version : {text : List ℕ} {version : Version} → ReadsVersion text (parts version) → IsScalar scalar.Version text (value.Version version)
  long : {text : List ℕ} {number : ℤ} → IsLong text number → IsScalar scalar.Long text (value.Long number)

-- each text stands for one of the values, in order
abbrev pub AreScalars : Scalar → List (List ℕ) → List Value → Type 0
AreScalars scalar [] [] = Unit {0}
AreScalars scalar (text ∷ texts) (value ∷ values) = IsScalar scalar text value × AreScalars scalar texts values
AreScalars scalar _ _ = ⊥

-- what a text stands for as a value of a type
pub data IsOfType : ValueType → List ℕ → Value → Type 0 where
  one : {scalar : Scalar} {text : List ℕ} {value : Value} → IsScalar scalar text value → IsOfType (value_type.One scalar) text value
  list : {scalar : Scalar} {text : List ℕ} {texts : List (List ℕ)} (values : List Value) →
      AreElements text texts → AreScalars scalar texts values → IsOfType (value_type.List scalar) text (value.List values)
