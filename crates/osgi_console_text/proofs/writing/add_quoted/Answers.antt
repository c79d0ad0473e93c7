-- Each byte adds its text.
use Rattle.std.proofs.Common.{get_or, refl, arith}
use Rattle.std.proofs.lemmas.Grind.{common_steps}
use Rattle.osgi_console_text.proofs.Parts.{escaped, parts_end, parts_step}
use Rattle.osgi_console_text.proofs.writing.add_quoted.Goals as goal

pub loop-byte-preserved : goal.loop-byte-preserved
loop-byte-preserved c =
    parts_step escaped c.args.text.now c.loop-byte.byte-index 0 (get_or c.args.text.now c.loop-byte.byte-index 0) _ c.loop-byte.out.items _ c.loop-byte-test.true refl
    c.in_ok-add_escaped.ensures.added c.loop-byte.invariant

pub returns : goal.returns
returns c =
    let all = parts_end escaped c.args.text.now c.loop-byte.byte-index _ c.loop-byte.out.items c.loop-byte-test.false c.loop-byte.invariant in grind (arith, common_steps)
