-- Whether attributes have a text.
use Rattle.std.specs.Prelude.{ℕ, Bool, List, bytes_eq}
use Rattle.osgi_model.specs.Matching.{attribute_value}
use Rattle.osgi_model.specs.computed.MatchReader.{item_passes}
use Rattle.osgi_model.specs.declared.filter.Test.TheVariants.{Equal}
use Rattle.osgi_model.specs.declared.value.Attribute.{Attribute}

-- the first attribute of this name passes a test for equality with the text
abbrev pub has_text : List Attribute → List ℕ → List ℕ → Bool
has_text attributes attribute text = item_passes (Equal text) (attribute_value bytes_eq attribute attributes)
