-- What is sought is among the properties that are left.
use Rattle.std.proofs.Common.{◌≡◌, drop}
use Rattle.std.specs.List.{list_any}
use Rattle.osgi_ops.specs.Properties.{is_named}
use Rattle.osgi_registry_index.proofs.properties.is_among.Given as goal

abbrev pub invariant-loop-property : goal.invariant-loop-property
invariant-loop-property l = list_any (is_named l.name) l.properties ≡ list_any (is_named l.name) (drop l.property-index l.properties)
