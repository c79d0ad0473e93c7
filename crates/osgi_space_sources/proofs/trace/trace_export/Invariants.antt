-- The export is traced by its exporter's own exports, and by those of the fragments so far.
use Rattle.std.proofs.Common.{ℕ, Contains, take}
use Rattle.osgi_space_rows.specs.Rows.{OwnUse}
use Rattle.osgi_space_rows.specs.declared.rows.Attachment.{Attachment}
use Rattle.osgi_space_sources.specs.computed.Amongst.{IsAmong}
use Rattle.osgi_space_sources.specs.computed.Disputes.{IsDisputed}
use Rattle.osgi_space_sources.specs.computed.RowSources.{Sources}
use Rattle.osgi_space_sources.specs.computed.Traces.{IsTracedTo, Keeps}
use Rattle.osgi_space_sources.proofs.trace.trace_export.Given as goal

abbrev pub invariant-loop-row : goal.invariant-loop-row
invariant-loop-row l = record {
  kept : Keeps l.fn.trace l.trace;
  own : (u x : ℕ) → OwnUse l.rows l.export.source l.export.package u → Sources l.rows l.export.source u x
      → IsTracedTo l.rows (IsAmong l.among) (IsDisputed l.disputed) l.trace l.export (record { «package» = u; source = x });
  attached : (row : Attachment) → Contains (take l.row-index l.row-items) row → (u x : ℕ) → OwnUse l.rows row.fragment l.export.package u → Sources l.rows l.export.source u x
      → IsTracedTo l.rows (IsAmong l.among) (IsDisputed l.disputed) l.trace l.export (record { «package» = u; source = x });
}
