-- What is sought is among the attributes that are left.
use Rattle.std.proofs.Common.{◌≡◌, drop}
use Rattle.std.specs.Prelude.{bytes_eq}
use Rattle.osgi_model.specs.Matching.{attribute_value}
use Rattle.osgi_capability.proofs.imports.value_named.Given as goal

abbrev pub invariant-loop-attribute : goal.invariant-loop-attribute
invariant-loop-attribute l = attribute_value bytes_eq l.name l.attributes ≡ attribute_value bytes_eq l.name (drop l.attribute-index l.attributes)
