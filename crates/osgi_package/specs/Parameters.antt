-- What a clause says by its attributes and its directives, where a name stands at most once.
use Rattle.std.specs.Prelude.{ℕ, ◌≡◌, ◌||◌, not, Bool, false, List, [], codes, find, Option, None, Some, unwrap_or}
use Rattle.std.specs.Option.{option_map, option_map_or}
use Rattle.std.specs.Str.{bytes_eq}
use Rattle.osgi_header.specs.declared.clause.Clause.{Clause}
use Rattle.osgi_header.specs.declared.clause.Pair.{Pair}
use Rattle.osgi_header.specs.declared.clause.Typed.{Typed}
use Rattle.osgi_header.specs.NameLists.{AreNames}
use Rattle.osgi_model.specs.declared.value.Attribute.{Attribute}
use Rattle.osgi_model.specs.declared.value_type.ValueType.{ValueType}
use Rattle.osgi_model.specs.Values.{IsOfType, Names}

-- ---- attributes

abbrev pub is_attribute_named : List ℕ → Typed → Bool
is_attribute_named name attribute = bytes_eq attribute.name name

-- the text of the attribute of this name, if the clause has one
abbrev pub attribute_text : List ℕ → Clause → Option (List ℕ)
attribute_text name clause = option_map (λ (a : Typed). a.value) (find (is_attribute_named name) clause.attributes)

-- the text of an attribute that gives a version or a range. Without the attribute it is empty, which reads as the version 0.0.0
-- and as the range of all versions from 0.0.0 on
abbrev pub version_text : List ℕ → Clause → List ℕ
version_text name clause = unwrap_or (attribute_text name clause) []

-- what an attribute says: its type is known, and its text stands for this value of it
pub record IsAttribute (typed : Typed) (attribute : Attribute) : Type 0 where
  pub kind : ValueType
  pub named : Names typed.kind kind
  pub name : attribute.name ≡ typed.name
  pub value : IsOfType kind typed.value attribute.value

abbrev pub IsReadableAttribute : Typed → Type 0
IsReadableAttribute typed = (attribute : Attribute) × IsAttribute typed attribute

abbrev pub is_double : Typed → Bool
is_double typed = bytes_eq typed.kind (codes "Double")

-- the name of the bundle that exports a package, and its version: attributes that each export has by itself
abbrev pub is_implicit : Typed → Bool
is_implicit typed = is_attribute_named (codes "bundle-symbolic-name") typed || is_attribute_named (codes "bundle-version") typed

-- it is neither the version of the package nor one of the exporter's
abbrev pub is_plain_attribute : Typed → Bool
is_plain_attribute typed = not (is_attribute_named (codes "version") typed || is_implicit typed)

-- ---- directives

-- the value of the directive of this name, if the clause has one
abbrev pub directive_value : List ℕ → Clause → Option (List ℕ)
directive_value name clause = option_map (λ (d : Pair). d.value) (find (λ (d : Pair). bytes_eq d.name name) clause.directives)

-- the directive of this name is there and has this value
abbrev pub is_directed : List ℕ → List ℕ → Clause → Bool
is_directed name value clause = option_map_or (λ given. bytes_eq given value) (directive_value name clause) false

-- the names that a directive lists; no directive lists none
abbrev pub Lists : Option (List ℕ) → List (List ℕ) → Type 0
Lists None names = names ≡ []
Lists (Some text) names = AreNames text names
