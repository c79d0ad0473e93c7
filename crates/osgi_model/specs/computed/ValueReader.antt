-- What the reader computes of texts that are values of a type. No promise of this crate speaks of this. The laws in
-- `TypeNames` and `ValueTexts` show that it gives the readings of the definition.
use Rattle.std.specs.Prelude.{ℕ, ◌==◌, ◌||◌, if◌then◌else◌, Bool, true, false, List, [], ◌∷◌, ◌++◌, codes, Option, Some, option_and_then, find}
use Rattle.std.specs.Option.{option_map}
use Rattle.std.specs.Str.{bytes_eq}
use Rattle.osgi_model.specs.computed.LongReader.{long_of}
use Rattle.osgi_model.specs.Values.{type_name}
use Rattle.osgi_model.specs.computed.VersionReader.{version_of}
use Rattle.osgi_model.specs.declared.value_type.ValueType.{ValueType}
use Rattle.osgi_model.specs.declared.value_type.ValueType.TheVariants as value_type
use Rattle.osgi_model.specs.declared.value_type.Scalar.{Scalar}
use Rattle.osgi_model.specs.declared.value_type.Scalar.TheVariants as scalar
use Rattle.osgi_model.specs.declared.value.Value.{Value}
use Rattle.osgi_model.specs.declared.value.Value.TheVariants as value

-- ---- types by their names

abbrev pub kinds : List ValueType
kinds = value_type.One scalar.String ∷ value_type.One scalar.Version ∷ value_type.One scalar.Long ∷ value_type.List scalar.String ∷ value_type.List scalar.Version ∷ value_type.List scalar.Long ∷ []

-- by its full name
abbrev pub kind_in_full : List ℕ → Option ValueType
kind_in_full name = find (λ kind. bytes_eq (type_name kind) name) kinds

abbrev pub kind_named : List ℕ → Option ValueType
kind_named name = if bytes_eq name (codes "List") then Some (value_type.List scalar.String) else kind_in_full name

-- ---- the elements of a list

-- what a `\` (92) and the byte after it stand for: `,` (44) or `\`, or else both bytes
abbrev pub unescaped : ℕ → List ℕ
unescaped b = if (b == 44) || (b == 92) then b ∷ [] else 92 ∷ b ∷ []

-- the elements from here on, where `text` was read already of the first, and a `\` after it where `escaped`
abbrev pub elements_after : Bool → List ℕ → List ℕ → List (List ℕ)
elements_after true text [] = (text ++ 92 ∷ []) ∷ []
elements_after false text [] = text ∷ []
elements_after true text (b ∷ rest) = elements_after false (text ++ unescaped b) rest
elements_after false text (b ∷ rest) =
    if b == 44 then text ∷ elements_after false [] rest
    else (if b == 92 then elements_after true text rest else elements_after false (text ++ b ∷ []) rest)

abbrev pub elements_of : List ℕ → List (List ℕ)
elements_of text = elements_after false [] text

-- ---- values

abbrev pub scalar_of : Scalar → List ℕ → Option Value
scalar_of scalar.String text = Some (value.Text text)
scalar_of scalar.Version text = option_map value.Version (version_of text)
scalar_of scalar.Long text = option_map value.Long (long_of text)

abbrev pub scalars_of : Scalar → List (List ℕ) → Option (List Value)
scalars_of scalar [] = Some []
scalars_of scalar (text ∷ texts) =
    option_and_then (λ value. option_map (λ values. value ∷ values) (scalars_of scalar texts)) (scalar_of scalar text)

abbrev pub value_of : ValueType → List ℕ → Option Value
value_of (value_type.One scalar) text = scalar_of scalar text
value_of (value_type.List scalar) text = option_map value.List (scalars_of scalar (elements_of text))
