-- One byte more of a name, white space or not.
use Rattle.std.proofs.Common.{arith, sym, ◌∙◌}
use Rattle.osgi_filter.proofs.NameSteps.{name_blank, name_other}
use Rattle.osgi_filter.proofs.scan.name_at.Goals as goal
use Rattle.osgi_filter.proofs.scan.name_at.Goals.{then-not-is_blank, else-not-is_blank}

pub loop-at-preserved : goal.loop-at-preserved
loop-at-preserved c =
    let n = sym c.is_item_name_byte.ensures.name ∙ c.if-not-is_item_name_byte.false in
    let end = c.loop-at.end in
    let at = c.loop-at.at in
    let bytes = c.args.bytes.now in
    elim c.if-not-is_blank.branch [
      | then-not-is_blank w ↦ record {
        within = omega (arith, w.end-is);
        name = rw w.end-is (name_other bytes end at c.loop-at-test.true c.loop-at.invariant.within n (sym c.is_blank.ensures.blank ∙ w.if-not-is_blank.true) ∙ c.loop-at.invariant.name);
      }
      | else-not-is_blank w ↦ record {
        within = omega (arith, w.end-is, c.loop-at.invariant.within);
        name = rw w.end-is (name_blank bytes end at c.loop-at-test.true c.loop-at.invariant.within n (sym c.is_blank.ensures.blank ∙ w.if-not-is_blank.false) ∙ c.loop-at.invariant.name);
      }
    ]
