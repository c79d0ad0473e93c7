-- Each bundle adds its line.
use Rattle.std.proofs.lemmas.Simd.{map-map}
use Rattle.osgi_session.specs.Rendering.{bundle_row_text, line_at}
use Rattle.osgi_ops.specs.declared.rows.BundleRow.{BundleRow}
use Rattle.osgi_console_text.proofs.Parts.{parts_end, parts_step}
use Rattle.osgi_console_text.proofs.rows.add_bundles.Goals as goal

pub loop-row-preserved : goal.loop-row-preserved
loop-row-preserved c =
    let row : BundleRow = c.row-item.result in
    parts_step (λ (row : BundleRow). line_at c.args.depth (bundle_row_text row)) c.args.rows.now c.loop-row.row-index row row _ c.loop-row.out.items _ c.loop-row-test.true c.row-item.is
    c.in_ok-add_bundle_row.ensures.added c.loop-row.invariant

pub returns : goal.returns
returns c =
    let all = parts_end (λ (row : BundleRow). line_at c.args.depth (bundle_row_text row)) c.args.rows.now c.loop-row.row-index _ c.loop-row.out.items c.loop-row-test.false c.loop-row.invariant in
    record { added = rw (map-map (line_at c.args.depth) bundle_row_text c.args.rows.now) all }
