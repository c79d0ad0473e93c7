-- One neighbour more comes before the next, or does not.
use Rattle.std.proofs.Common.{refl, arith}
use Rattle.osgi_listeners.proofs.InOrder.{neighbours, stand_all, stand_more}
use Rattle.osgi_listeners.proofs.sight.are_in_order.Goals as goal

pub returns-then-not-comes_before : goal.returns-then-not-comes_before
returns-then-not-comes_before c = record {
  in_order = ((λ is. absurd (cc is)), λ pairs. c.if-not-comes_before.ensures.before.1 (neighbours c.args.sights.now c.loop-at.at _ (omega arith) c.loop-at-test.true pairs));
}

pub loop-at-preserved : goal.loop-at-preserved
loop-at-preserved c = stand_more c.args.sights.now c.loop-at.at _ (omega arith) c.loop-at-test.true (c.if-not-comes_before.ensures.before.0 refl) c.loop-at.invariant

pub returns : goal.returns
returns c = record { in_order = ((λ is. stand_all c.args.sights.now c.loop-at.at c.loop-at-test.false c.loop-at.invariant), λ pairs. refl) }
