-- The text so far, and that of the wires that are left.
use Rattle.std.proofs.Common.{◌≡◌, ◌++◌, drop, map}
use Rattle.std.specs.List.{concat}
use Rattle.osgi_session.specs.Rendering.{line_at, wire_row_text}
use Rattle.osgi_console_text.proofs.wires.add_wire_rows.Given as goal

abbrev pub invariant-loop-row : goal.invariant-loop-row
invariant-loop-row l =
    l.out.items ++ concat (map (λ row. line_at l.depth (wire_row_text row)) (drop l.row-index l.rows))
    ≡ l.initial.out.items ++ concat (map (λ row. line_at l.depth (wire_row_text row)) l.rows)
