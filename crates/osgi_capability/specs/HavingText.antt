-- Capabilities that have a text in an attribute.
use Rattle.std.specs.Prelude.{◌≡◌, ℕ, false, List, bytes_eq}
use Rattle.osgi_model.specs.Matching.{ItemPasses, attribute_value}
use Rattle.osgi_model.specs.declared.filter.Test.TheVariants.{Equal}
use Rattle.osgi_world.specs.Satisfaction.{is_bundle, is_package}
use Rattle.osgi_world.specs.declared.capability.Capability.{Capability}

-- the capability is no bundle and no package, and its first attribute of this name passes a test for equality with the text: it is the
-- text, a number or a version that the text reads as, or a list with such an element
pub record HasText (c : Capability) (attribute text : List ℕ) : Type 0 where
  pub no_bundle : is_bundle c.namespace ≡ false
  pub no_package : is_package c.namespace ≡ false
  pub has : ItemPasses (Equal text) (attribute_value bytes_eq attribute c.attributes)
