-- The values so far go on with those of the attributes that are left.
use Rattle.std.proofs.Common.{◌≡◌, drop}
use Rattle.osgi_package.specs.computed.AttributeReader.{others_onto, values_of}
use Rattle.osgi_package.proofs.attributes.values.Given as goal

abbrev pub invariant-loop-typed : goal.invariant-loop-typed
invariant-loop-typed l = others_onto l.values (values_of (drop l.typed-index l.attributes)) ≡ values_of l.attributes
