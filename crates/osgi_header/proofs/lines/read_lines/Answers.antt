-- Each line is one of the section, and after the last the section is over.
use Rattle.std.proofs.Common.{refl, arith}
use Rattle.osgi_header.proofs.LineReading.{begins-len, lines_end, lines_more}
use Rattle.osgi_header.proofs.lines.read_lines.Goals as goal

pub loop-text-preserved : goal.loop-text-preserved
loop-text-preserved c =
    let line = c.in-Some.ensures.line in
    record {
      within = omega (arith, c.loop-text.invariant.within, begins-len c.loop-text.rest.now c.in-Some.text.now c.in-Some.left.now line);
      read =
          lines_more c.args.bytes.now c.loop-text.rest.now c.in-Some.text.now c.in-Some.left.now c.loop-text.lines.items c.push.new.self.items _
          c.loop-text.invariant.within line refl c.in_ok-push.ensures.items c.loop-text.invariant.read;
    }

pub returns : goal.returns
returns c = record { lines = lines_end c.args.bytes.now c.loop-text.rest.now c.loop-text.lines.items c.in_default.ensures.line c.loop-text.invariant.read }
