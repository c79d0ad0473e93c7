-- One number more, and the last.
use Rattle.std.proofs.Common.{◌+◌, ◌++◌, ◌∙◌, List, length, ap}
use Rattle.osgi_world.specs.declared.wiring.CapRef.{CapRef}
use Rattle.osgi_candidate_rows.specs.computed.Index.{numbers_from}
use Rattle.osgi_candidate_rows.proofs.Indexed.{numbers-all, numbers-next}
use Rattle.osgi_candidate_rows.proofs.index.first_items.Goals as goal

pub loop-choice-init : goal.loop-choice-init
loop-choice-init c = ap (λ firsts. firsts ++ numbers_from 0 c.args.choices.now) c.new-firsts.ensures.items

pub loop-choice-preserved : goal.loop-choice-preserved
loop-choice-preserved c =
    numbers-next c.args.choices.now c.loop-choice.choice-index c.loop-choice.number c.in-Some.next c.loop-choice.firsts.items c.push.new.self.items c.choice-item.result c.loop-choice-test.true c.choice-item.is c.loop-choice.invariant c.in_ok-push.ensures.items
    (c.in-Some.ensures.1 ∙ ap (λ (xs : List CapRef). c.loop-choice.number + length xs) c.items-count.ensures.items)

pub returns : goal.returns
returns c = record { numbers = c.in_ok-push-2.ensures.items ∙ numbers-all c.args.choices.now c.loop-choice.choice-index c.loop-choice.number c.loop-choice.firsts.items c.loop-choice-test.false c.loop-choice.invariant }
