-- The others so far go on with those of the attributes that are left.
use Rattle.std.proofs.Common.{◌≡◌, drop}
use Rattle.osgi_package.specs.computed.AttributeReader.{others_of, others_onto}
use Rattle.osgi_package.proofs.attributes.others.Given as goal

abbrev pub invariant-loop-typed : goal.invariant-loop-typed
invariant-loop-typed l = others_onto l.others (others_of (drop l.typed-index l.attributes)) ≡ others_of l.attributes
