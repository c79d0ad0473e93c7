-- The names so far go on with those of the attributes that are left.
use Rattle.std.proofs.Common.{◌≡◌, ◌++◌, drop}
use Rattle.std.specs.Prelude.{map}
use Rattle.osgi_header.specs.declared.clause.Typed.{Typed}
use Rattle.osgi_clause.proofs.repeats.attribute_names.Given as goal

abbrev pub invariant-loop-attribute : goal.invariant-loop-attribute
invariant-loop-attribute l = l.names ++ map (λ (a : Typed). a.name) (drop l.attribute-index l.attributes) ≡ map (λ (a : Typed). a.name) l.attributes
