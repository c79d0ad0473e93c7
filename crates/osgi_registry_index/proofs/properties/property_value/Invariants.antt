-- What is sought is among the properties that are left.
use Rattle.std.proofs.Common.{◌≡◌, drop}
use Rattle.std.specs.Prelude.{find}
use Rattle.osgi_ops.specs.Properties.{is_named}
use Rattle.osgi_registry_index.proofs.properties.property_value.Given as goal

abbrev pub invariant-loop-property : goal.invariant-loop-property
invariant-loop-property l = find (is_named l.name) l.properties ≡ find (is_named l.name) (drop l.property-index l.properties)
