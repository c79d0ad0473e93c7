-- What is computed of the attributes of a clause. No public promise speaks of this: it is proved to give what the definitions say.
use Rattle.std.specs.Prelude.{if◌then◌else◌, List, [], ◌∷◌, ◌++◌, Option, Some, option_and_then, Result, Err}
use Rattle.std.specs.List.{list_any}
use Rattle.std.specs.Option.{option_map, ok_or}
use Rattle.osgi_header.specs.declared.clause.Clause.{Clause}
use Rattle.osgi_header.specs.declared.clause.Typed.{Typed}
use Rattle.osgi_model.specs.computed.ValueReader.{kind_named, value_of}
use Rattle.osgi_model.specs.declared.value.Attribute.{Attribute}
use Rattle.osgi_package.specs.declared.fault.PackageKind.{PackageKind}
use Rattle.osgi_package.specs.declared.fault.PackageKind.TheVariants.{BadValue, DoubleType}
use Rattle.osgi_package.specs.Parameters.{is_double, is_plain_attribute}

abbrev pub attribute_of : Typed → Option Attribute
attribute_of typed =
    option_map (λ value. record { name = typed.name; value = value }) (option_and_then (λ kind. value_of kind typed.value) (kind_named typed.kind))

-- an attribute before others, if it counts among them
abbrev pub with_other : Typed → Attribute → List Attribute → List Attribute
with_other typed attribute others = if is_plain_attribute typed then attribute ∷ others else others

-- the other attributes, where all attributes have values
abbrev pub others_of : List Typed → Option (List Attribute)
others_of [] = Some []
others_of (typed ∷ rest) = option_and_then (λ attribute. option_map (with_other typed attribute) (others_of rest)) (attribute_of typed)

-- the others so far before those
abbrev pub others_onto : List Attribute → Option (List Attribute) → Option (List Attribute)
others_onto others rest = option_map (λ more. others ++ more) rest

abbrev pub attributes_of : Clause → Result (List Attribute) PackageKind
attributes_of clause = if list_any is_double clause.attributes then Err DoubleType else ok_or (others_of clause.attributes) BadValue

-- all attributes, where all have values
abbrev pub values_of : List Typed → Option (List Attribute)
values_of [] = Some []
values_of (typed ∷ rest) = option_and_then (λ attribute. option_map (λ more. attribute ∷ more) (values_of rest)) (attribute_of typed)
