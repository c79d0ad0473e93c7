-- The line of the wire, if one was added, and then that of the class.
use Rattle.osgi_console_text.proofs.Parts.{added_both, loaded_lines}
use Rattle.osgi_session.specs.Rendering.{added_lines, line_at, lines_at, loaded_text}
use Rattle.osgi_session.specs.RefusalTexts.{spaced}
use Rattle.std.proofs.Common.{◌++◌}
use Rattle.std.specs.Prelude.{codes}
use Rattle.osgi_console_text.proofs.wires.add_loaded_more.Goals as goal

pub returns : goal.returns
returns c =
    let depth = c.args.depth in
    let line = codes "loaded" ++ spaced (loaded_text c.args.by) in
    record {
      added = added_both c.add_loaded.result c.args.out.now.items c.add_added.new.out.items c.add_loaded.new.out.items
          (lines_at depth (added_lines c.args.wire.now)) (line_at depth line) _ c.in_ok-add_added.ensures.added (loaded_lines depth c.args.wire.now line) c.add_loaded.ensures.added;
    }
