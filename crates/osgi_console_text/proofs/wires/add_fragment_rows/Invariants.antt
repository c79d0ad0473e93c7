-- The text so far, and that of the fragments that are left.
use Rattle.std.proofs.Common.{◌≡◌, ◌++◌, drop, map}
use Rattle.std.specs.List.{concat}
use Rattle.osgi_session.specs.Rendering.{fragment_row_text, line_at}
use Rattle.osgi_console_text.proofs.wires.add_fragment_rows.Given as goal

abbrev pub invariant-loop-row : goal.invariant-loop-row
invariant-loop-row l =
    l.out.items ++ concat (map (λ row. line_at l.depth (fragment_row_text row)) (drop l.row-index l.rows))
    ≡ l.initial.out.items ++ concat (map (λ row. line_at l.depth (fragment_row_text row)) l.rows)
