-- A text that is new joins those that were seen, and one that is not stands twice.
use Rattle.std.proofs.Common.{◌++◌, subst, rules}
use Rattle.std.proofs.lemmas.List.{take_all}
use Rattle.osgi_package.specs.computed.ImportReader.{AreSeen}
use Rattle.osgi_package.proofs.ImportReading.{one_package, twice_among, was_new, was_seen}
use Rattle.osgi_package.proofs.distinct.add_texts.Goals as goal

pub returns-then-not-is_new : goal.returns-then-not-is_new
returns-then-not-is_new c = record {
  new = λ before seen.
      twice_among c.loop-text.seen before c.args.texts.now c.loop-text.text-index c.text-item.result c.in_ok-copy.field-0 c.loop-text-test.true c.text-item.is c.in_ok-copy.ensures.same
      (c.loop-text.invariant before seen) (was_seen c.in_ok-is_new.is_new _ c.in_ok-is_new.ensures.added (search rules));
}

pub loop-text-preserved : goal.loop-text-preserved
loop-text-preserved c = λ before seen.
    one_package c.loop-text.seen c.insert.new.self before c.args.texts.now c.loop-text.text-index c.text-item.result c.in_ok-copy.field-0 c.loop-text-test.true c.text-item.is
    c.in_ok-copy.ensures.same (c.loop-text.invariant before seen) (was_new c.in_ok-is_new.is_new _ c.in_ok-is_new.ensures.added (search rules))
    (λ q. c.in_ok-is_new.ensures.updates.0 q)

pub returns : goal.returns
returns c = record {
  new = λ before seen.
      subst (λ l. AreSeen c.loop-text.seen (before ++ l)) (take_all c.loop-text.text-index c.args.texts.now c.loop-text-test.false) (c.loop-text.invariant before seen);
}
