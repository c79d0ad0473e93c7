-- None of the wires so far is for a disputed package.
use Rattle.std.proofs.Common.{Any, take}
use Rattle.osgi_space_sources.specs.computed.Disputes.{IsDisputed}
use Rattle.osgi_space_rows.specs.declared.rows.Import.{Import}
use Rattle.osgi_space_sources.proofs.uses.has_disputed_import.Given as goal

abbrev pub invariant-loop-row : goal.invariant-loop-row
invariant-loop-row l = ¬ Any (λ (row : Import). IsDisputed l.disputed row.imported) (take l.row-index l.imports)
