-- None of the wires so far goes to another provider.
use Rattle.std.proofs.Common.{◌≢◌, Any, take}
use Rattle.osgi_space_rows.specs.declared.rows.Import.{Import}
use Rattle.osgi_resolver_hopeless.proofs.providers.has_another.Given as goal

abbrev pub invariant-loop-row : goal.invariant-loop-row
invariant-loop-row l = ¬ Any (λ (row : Import). row.provider ≢ l.provider) (take l.row-index l.imports)
