-- What the reader computes of words that are properties. No public promise speaks of this: it is proved to give the readings
-- of the grammar.
use Rattle.std.specs.Prelude.{ℕ, ◌+◌, ◌==◌, if◌then◌else◌, not, Bool, false, List, [], ◌∷◌, length, codes, Option, None, Some, option_and_then, take, drop}
use Rattle.std.specs.List.{list_all, position}
use Rattle.std.specs.Option.{option_map}
use Rattle.osgi_model.specs.computed.ValueReader.{kind_named, value_of}
use Rattle.osgi_model.specs.declared.value.Attribute.{Attribute}
use Rattle.osgi_model.specs.declared.value.Value.{Value}
use Rattle.osgi_syntax.specs.Properties.{is_bare_byte, is_key_byte}
use Rattle.osgi_base.specs.QuoteReader.{quoted_of}

-- a `"` (34) stands first
abbrev pub begins_with_quote : List ℕ → Bool
begins_with_quote [] = false
begins_with_quote (b ∷ rest) = b == 34

abbrev pub value_text_of : List ℕ → Option (List ℕ)
value_text_of spelled = if begins_with_quote spelled then quoted_of spelled else (if list_all is_bare_byte spelled then Some spelled else None)

-- what a text stands for as a value of the type of this name
abbrev pub value_named : List ℕ → List ℕ → Option Value
value_named type text = option_and_then (λ kind. value_of kind text) (kind_named type)

-- the property of a key and a type whose value is spelled like this
abbrev pub attribute_of : List ℕ → List ℕ → List ℕ → Option Attribute
attribute_of key type spelled =
    option_and_then (λ text. option_map (λ value. record { name = key; value = value }) (value_named type text)) (value_text_of spelled)

-- `=` (61)
abbrev pub is_equals : ℕ → Bool
is_equals b = b == 61

-- the property of a key, by what follows the `:` between key and type
abbrev pub typed_of : List ℕ → List ℕ → Option Attribute
typed_of key rest = option_and_then (λ end. attribute_of key (take end rest) (drop (end + 1) rest)) (position is_equals rest)

-- the property of a key, by what follows it: `=` (61), or `:` (58) and a type
abbrev pub property_from : List ℕ → List ℕ → Option Attribute
property_from key [] = None
property_from key (b ∷ rest) =
    if b == 61 then attribute_of key (codes "String") rest else (if b == 58 then typed_of key rest else None)

abbrev pub property_by : List ℕ → List ℕ → Option Attribute
property_by key rest = if length key == 0 then None else property_from key rest

abbrev pub ends_key : ℕ → Bool
ends_key b = not (is_key_byte b)

abbrev pub property_of : List ℕ → Option Attribute
property_of word = option_and_then (λ end. property_by (take end word) (drop end word)) (position ends_key word)

abbrev pub properties_of : List (List ℕ) → Option (List Attribute)
properties_of [] = Some []
properties_of (word ∷ words) =
    option_and_then (λ property. option_map (λ properties. property ∷ properties) (properties_of words)) (property_of word)
