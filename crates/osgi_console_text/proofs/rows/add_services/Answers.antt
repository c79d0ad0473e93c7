-- Each service adds its line.
use Rattle.osgi_session.specs.Rendering.{line_at, service_row_text}
use Rattle.osgi_ops.specs.declared.service.ServiceRow.{ServiceRow}
use Rattle.std.proofs.Common.{sym}
use Rattle.osgi_console_text.proofs.Parts.{parts_end, parts_step, service_lines-some}
use Rattle.osgi_console_text.proofs.rows.add_services.Goals as goal

pub loop-row-preserved : goal.loop-row-preserved
loop-row-preserved c =
    let row : ServiceRow = c.row-item.result in
    parts_step (λ (row : ServiceRow). line_at c.args.depth (service_row_text row)) c.args.rows.now c.loop-row.row-index row row _ c.loop-row.out.items _ c.loop-row-test.true c.row-item.is
    c.in_ok-add_service_row.ensures.added c.loop-row.invariant

pub returns : goal.returns
returns c =
    let all = parts_end (λ (row : ServiceRow). line_at c.args.depth (service_row_text row)) c.args.rows.now c.loop-row.row-index _ c.loop-row.out.items c.loop-row-test.false c.loop-row.invariant in
    record { added = rw (service_lines-some c.args.depth c.args.rows.now (sym c.if-is_empty.ensures)) all }
