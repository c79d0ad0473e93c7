-- The name is none of those so far.
use Rattle.std.proofs.Common.{◌≡◌, drop}
use Rattle.osgi_capability.specs.computed.Satisfied.{is_listed}
use Rattle.osgi_capability.proofs.imports.is_listed.Given as goal

abbrev pub invariant-loop-attribute : goal.invariant-loop-attribute
invariant-loop-attribute l = is_listed (drop l.attribute-index l.attributes) l.name ≡ is_listed l.attributes l.name
