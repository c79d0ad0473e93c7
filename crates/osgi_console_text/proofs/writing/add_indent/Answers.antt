-- Two more spaces for one more bracket.
use Rattle.osgi_console_text.proofs.Parts.{indent_more}
use Rattle.osgi_console_text.proofs.writing.add_indent.Goals as goal

pub loop-level-preserved : goal.loop-level-preserved
loop-level-preserved c =
    indent_more c.args.out.now.items c.loop-level.out.items c.extend_from_slice.new.self.items c.loop-level._level c.loop-level.invariant c.in_ok-extend_from_slice.ensures.items
