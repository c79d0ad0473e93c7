-- The lines of the wires and then those of the fragments, where there are some of either.
use Rattle.std.proofs.Common.{◌≡◌, map, sym}
use Rattle.osgi_session.specs.Rendering.{fragment_row_text, lines_at, wire_lines, wire_row_text}
use Rattle.osgi_console_text.proofs.Parts.{added_both, lines_of, wire_lines-fragment, wire_lines-wire}
use Rattle.osgi_console_text.proofs.wires.add_wires.Goals as goal
use Rattle.osgi_console_text.proofs.wires.add_wires.Goals.{else-is_empty-via-then-is_empty+else-is_empty-2, else-is_empty-via-else-is_empty}

pub returns : goal.returns
returns c =
    let rows = c.args.rows.now in
    let fragments = c.args.fragments.now in
    let depth = c.args.depth in
    let whole : lines_at depth (wire_lines rows fragments) ≡ lines_of depth rows fragments =
    elim c.else-is_empty.branch [
      | else-is_empty-via-then-is_empty+else-is_empty-2 w ↦ wire_lines-fragment depth rows fragments (sym w.if-is_empty-2.ensures)
      | else-is_empty-via-else-is_empty w ↦ wire_lines-wire depth rows fragments (sym w.if-is_empty.ensures)
    ] in
    record {
      added = added_both c.add_fragment_rows.result c.args.out.now.items c.add_wire_rows.new.out.items c.add_fragment_rows.new.out.items
          (lines_at depth (map wire_row_text rows)) (lines_at depth (map fragment_row_text fragments)) _ c.in_ok-add_wire_rows.ensures.added whole c.add_fragment_rows.ensures.added;
    }
