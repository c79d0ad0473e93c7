-- What is sought is among the directives that are left.
use Rattle.std.proofs.Common.{◌≡◌, drop}
use Rattle.std.specs.Prelude.{find}
use Rattle.std.specs.Str.{bytes_eq}
use Rattle.osgi_header.specs.declared.clause.Pair.{Pair}
use Rattle.osgi_package.proofs.parameters.directive_value.Given as goal

abbrev pub invariant-loop-directive : goal.invariant-loop-directive
invariant-loop-directive l =
    find (λ (d : Pair). bytes_eq d.name l.name) l.clause.directives ≡ find (λ (d : Pair). bytes_eq d.name l.name) (drop l.directive-index l.directive-items)
