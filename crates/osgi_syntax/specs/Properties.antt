-- Properties and their values, as words spell them.
use Rattle.std.specs.Prelude.{ℕ, ◌<◌, ◌==◌, ◌||◌, not, Bool, List, [], ◌∷◌, ◌++◌, length}
use Rattle.std.specs.List.{AllPass}
use Rattle.osgi_model.specs.Values.{IsOfType, Names}
use Rattle.osgi_model.specs.declared.value_type.ValueType.{ValueType}
use Rattle.osgi_model.specs.declared.value.Attribute.{Attribute}
use Rattle.osgi_model.specs.declared.value.Value.{Value}
use Rattle.osgi_model.specs.declared.value.Value.TheVariants.{Text}
use Rattle.osgi_base.specs.Quotes.{IsQuoted}

-- one or more bytes other than space, `:`, `=` and `"`
abbrev pub is_key_byte : ℕ → Bool
is_key_byte b = not ((b == 32) || (b == 58) || (b == 61) || (b == 34))

abbrev pub IsKey : List ℕ → Type 0
IsKey key = (0 < length key) × AllPass is_key_byte key

-- any byte other than space and `"`
abbrev pub is_bare_byte : ℕ → Bool
is_bare_byte b = not ((b == 32) || (b == 34))

-- the text of a value: between quotes, or as it stands
pub data IsValueText : List ℕ → List ℕ → Type 0 where
  quoted : {spelled text : List ℕ} → IsQuoted spelled text → IsValueText spelled text
  bare : {text : List ℕ} → AllPass is_bare_byte text → IsValueText text text

-- `key=value`, whose type is String, or `key:Type=value`
pub data IsProperty : List ℕ → Attribute → Type 0 where
  untyped : {key spelled text : List ℕ} → IsKey key → IsValueText spelled text →
      IsProperty (key ++ 61 ∷ spelled) (record { name = key; value = Text text })
  typed : {key type spelled text : List ℕ} {kind : ValueType} {value : Value} → IsKey key → Names type kind → IsValueText spelled text → IsOfType kind text value →
      IsProperty (key ++ (58 ∷ type ++ 61 ∷ spelled)) (record { name = key; value = value })

-- each word is one of the properties, in order
abbrev pub AreProperties : List (List ℕ) → List Attribute → Type 0
AreProperties [] [] = Unit {0}
AreProperties (word ∷ words) (property ∷ properties) = IsProperty word property × AreProperties words properties
AreProperties _ _ = ⊥
