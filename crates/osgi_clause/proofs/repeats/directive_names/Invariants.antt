-- The names so far go on with those of the directives that are left.
use Rattle.std.proofs.Common.{◌≡◌, ◌++◌, drop}
use Rattle.std.specs.Prelude.{map}
use Rattle.osgi_header.specs.declared.clause.Pair.{Pair}
use Rattle.osgi_clause.proofs.repeats.directive_names.Given as goal

abbrev pub invariant-loop-directive : goal.invariant-loop-directive
invariant-loop-directive l = l.names ++ map (λ (d : Pair). d.name) (drop l.directive-index l.directives) ≡ map (λ (d : Pair). d.name) l.directives
