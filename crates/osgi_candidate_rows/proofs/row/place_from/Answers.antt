-- The first item, the next one, and the last.
use Rattle.std.proofs.Common.{◌∙◌, ◌<◌, subst}
use Rattle.osgi_candidate_rows.proofs.Going.{next-place, next-self, none-first, none-next, passed-first, passed-next, value-is}
use Rattle.osgi_candidate_rows.proofs.row.place_from.Goals as goal

pub returns-in_default : goal.returns-in_default
returns-in_default c = record { place = λ choices holds there. none-first choices c.args.rows.now holds c.args.row there c.args.from c.in_default.ensures.first }

pub loop-init : goal.loop-init
loop-init c = record {
  live = c.in-Some.ensures.item.0;
  within = c.in-Some.ensures.item.1;
  passed = λ choices holds there. passed-first choices c.args.rows.now holds c.args.row there c.args.from c.in-Some.item c.in-Some.ensures.first;
}

pub returns-then-place-from : goal.returns-then-place-from
returns-then-place-from c = record {
  place = λ choices holds there. next-place choices c.args.rows.now holds c.args.row there c.args.from c.loop.item c.value-place.result (c.loop.invariant.passed choices holds there) c.value-place.ensures.value c.if-place-from.true;
}

pub returns-in_default-next : goal.returns-in_default-next
returns-in_default-next c = record {
  place = λ choices holds there.
      let p = c.loop.invariant.passed choices holds there in
      let is = c.value-place.ensures.value ∙ value-is choices c.args.rows.now holds c.args.row there c.loop.item p.low p.high in
      none-next choices c.args.rows.now holds c.args.row there c.args.from c.loop.item p c.loop.invariant.live (subst (λ n. n < c.args.from) is c.if-place-from.false) c.in_default-next.ensures.next;
}

pub loop-preserved : goal.loop-preserved
loop-preserved c = record {
  live = c.in-Some-next.ensures.item.0;
  within = c.in-Some-next.ensures.item.1;
  passed = λ choices holds there.
      let p = c.loop.invariant.passed choices holds there in
      let is = c.value-place.ensures.value ∙ value-is choices c.args.rows.now holds c.args.row there c.loop.item p.low p.high in
      passed-next choices c.args.rows.now holds c.args.row there c.args.from c.loop.item c.in-Some-next.next p c.loop.invariant.live (subst (λ n. n < c.args.from) is c.if-place-from.false) c.in-Some-next.ensures.next;
}

pub returns : goal.returns
returns c = record { place = λ choices holds there. next-self choices c.args.rows.now.removed c.args.row c.args.from }
