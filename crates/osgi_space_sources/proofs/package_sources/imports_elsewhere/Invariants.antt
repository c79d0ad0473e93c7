-- Each of the wires so far goes to the revision itself.
use Rattle.std.proofs.Common.{◌≢◌, Any, take}
use Rattle.osgi_space_rows.specs.declared.rows.Import.{Import}
use Rattle.osgi_space_sources.proofs.package_sources.imports_elsewhere.Given as goal

abbrev pub invariant-loop-row : goal.invariant-loop-row
invariant-loop-row l = ¬ Any (λ (row : Import). row.provider ≢ l.revision) (take l.row-index l.row-items)
