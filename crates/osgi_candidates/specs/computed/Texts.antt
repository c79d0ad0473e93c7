-- What stands under the texts of capabilities.
use Rattle.std.specs.Prelude.{◌≡◌, ◌⊎◌, ℕ, IsTrue, List, [], slice_get, Some}
use Rattle.std.specs.Ordering.{on, then_cmp}
use Rattle.std.specs.declared.cmp.Ordering.{Ordering}
use Rattle.osgi_base.specs.computed.Texts.{text_cmp}
use Rattle.osgi_candidates.specs.declared.names.Place.{Place}
use Rattle.osgi_candidates.specs.declared.texts.AttributeKey.{AttributeKey}
use Rattle.osgi_candidates.specs.declared.texts.TextIndex.{TextIndex}
use Rattle.osgi_candidates.specs.declared.texts.TextKey.{TextKey}
use Rattle.osgi_capability.specs.HavingText.{HasText}
use Rattle.osgi_model.specs.computed.MatchReader.{passes}
use Rattle.osgi_model.specs.declared.filter.Test.TheVariants.{Equal}
use Rattle.osgi_model.specs.declared.value.Attribute.{Attribute}
use Rattle.osgi_model.specs.declared.value.Value.{Value}
use Rattle.osgi_space_rows.specs.computed.Groups.{values_of}
use Rattle.osgi_version.specs.declared.version.Version.{Version}
use Rattle.osgi_world.specs.Lists.{In}
use Rattle.osgi_world.specs.Satisfaction.{Satisfies}
use Rattle.osgi_world.specs.declared.capability.Capability.{Capability}
use Rattle.osgi_world.specs.declared.requirement.Requirement.{Requirement}
use Rattle.osgi_world.specs.declared.world.Known.{Known}

-- ---- keys

abbrev pub attribute_cmp : AttributeKey → AttributeKey → Ordering
attribute_cmp = then_cmp (on (λ k. k.attribute) text_cmp) (on (λ k. k.name) text_cmp)

abbrev pub key_cmp : TextKey → TextKey → Ordering
key_cmp = then_cmp (on (λ k. k.text) text_cmp) (on (λ k. k.attribute) attribute_cmp)

abbrev pub attribute_key : List ℕ → List ℕ → AttributeKey
attribute_key name attribute = record { attribute = attribute; name = name }

abbrev pub text_key : List ℕ → List ℕ → List ℕ → TextKey
text_key name attribute text = record { text = text; attribute = attribute_key name attribute }

-- ---- what stands under them

-- the place stands where a capability of this name is sought that has the text in the attribute
abbrev pub IsListed : TextIndex → List ℕ → List ℕ → List ℕ → Place → Type 0
IsListed index name attribute text p =
    In p (values_of key_cmp index.texts (text_key name attribute text))
    ⊎ (In p (values_of attribute_cmp index.others (attribute_key name attribute))
    ⊎ In p (values_of text_cmp index.many name))

pub record HasNoTexts (index : TextIndex) : Type 0 where
  pub texts : (k : TextKey) → values_of key_cmp index.texts k ≡ []
  pub others : (k : AttributeKey) → values_of attribute_cmp index.others k ≡ []
  pub many : (n : List ℕ) → values_of text_cmp index.many n ≡ []

-- what stood somewhere still does, and so does what is said of names, attributes and texts
pub record AddsTexts (old new : TextIndex) (Added : List ℕ → List ℕ → List ℕ → Place → Type 0) : Type 0 where
  pub kept : (n a t : List ℕ) (p : Place) → IsListed old n a t p → IsListed new n a t p
  pub added : (n a t : List ℕ) (p : Place) → Added n a t p → IsListed new n a t p

-- the value of this attribute passes a test for equality with the text
pub record IsValueText (place : Place) (name attribute : List ℕ) (value : Value) (n a t : List ℕ) (p : Place) : Type 0 where
  pub name_is : n ≡ name
  pub attribute_is : a ≡ attribute
  pub place_is : p ≡ place
  pub passes : IsTrue (passes (Equal t) value)

-- one of the values is so
abbrev pub IsSomeValue : Place → List ℕ → List ℕ → List Value → List ℕ → List ℕ → List ℕ → Place → Type 0
IsSomeValue place name attribute values n a t p = (v : Value) × In v values × IsValueText place name attribute v n a t p

-- one of the attributes is so
abbrev pub IsSomeText : Place → List ℕ → List Attribute → List ℕ → List ℕ → List ℕ → Place → Type 0
IsSomeText place name attributes n a t p = (x : Attribute) × In x attributes × IsValueText place name x.name x.value n a t p

-- the capability, which stands at this place, has the text
pub record IsTextOfOne (place : Place) (c : Capability) (n a t : List ℕ) (p : Place) : Type 0 where
  pub name_is : n ≡ c.name
  pub place_is : p ≡ place
  pub has : HasText c a t

-- a capability of what is known has the text
pub record IsTextOf (k : Known) (n a t : List ℕ) (p : Place) : Type 0 where
  pub capability : Capability
  pub stands : slice_get k.revision.capabilities p.index ≡ Some capability
  pub owner : p.owner ≡ k.id
  pub name : capability.name ≡ n
  pub has : HasText capability a t

-- the key is of the requirement's name, and each capability that satisfies the requirement has its text
pub record AsksText (q : Requirement) (k : TextKey) : Type 0 where
  pub name : k.attribute.name ≡ q.name
  pub asked : (c : Capability) (name : List ℕ) (version : Version) → Satisfies q c name version → HasText c k.attribute.attribute k.text
