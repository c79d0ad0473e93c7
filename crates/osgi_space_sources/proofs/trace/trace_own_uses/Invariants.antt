-- The export is traced by the uses so far.
use Rattle.std.proofs.Common.{ℕ, Contains, take}
use Rattle.osgi_space_rows.specs.declared.rows.Use.{Use}
use Rattle.osgi_space_sources.specs.computed.Amongst.{IsAmong}
use Rattle.osgi_space_sources.specs.computed.Disputes.{IsDisputed}
use Rattle.osgi_space_sources.specs.computed.RowSources.{Sources}
use Rattle.osgi_space_sources.specs.computed.Traces.{IsTracedTo, Keeps}
use Rattle.osgi_space_sources.proofs.trace.trace_own_uses.Given as goal

abbrev pub invariant-loop-row : goal.invariant-loop-row
invariant-loop-row l = record {
  kept : Keeps l.fn.trace l.trace;
  traced : (row : Use) → Contains (take l.row-index l.row-items) row → (x : ℕ) → Sources l.rows l.export.source row.used x
      → IsTracedTo l.rows (IsAmong l.among) (IsDisputed l.disputed) l.trace l.export (record { «package» = row.used; source = x });
}
