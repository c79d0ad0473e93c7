-- What is sought is among the attributes that are left.
use Rattle.std.proofs.Common.{◌≡◌, drop}
use Rattle.osgi_model.specs.Matching.{attribute_value}
use Rattle.osgi_filter.specs.Names.{same_name}
use Rattle.osgi_filter.proofs.named.scanned_value.Given as goal

abbrev pub invariant-loop-attribute : goal.invariant-loop-attribute
invariant-loop-attribute l = attribute_value (same_name l.case) l.name l.attributes ≡ attribute_value (same_name l.case) l.name (drop l.attribute-index l.attributes)
