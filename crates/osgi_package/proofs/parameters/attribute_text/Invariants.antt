-- What is sought is among the attributes that are left.
use Rattle.std.proofs.Common.{◌≡◌, drop}
use Rattle.std.specs.Prelude.{find}
use Rattle.osgi_package.specs.Parameters.{is_attribute_named}
use Rattle.osgi_package.proofs.parameters.attribute_text.Given as goal

abbrev pub invariant-loop-attribute : goal.invariant-loop-attribute
invariant-loop-attribute l = find (is_attribute_named l.name) l.clause.attributes ≡ find (is_attribute_named l.name) (drop l.attribute-index l.attribute-items)
