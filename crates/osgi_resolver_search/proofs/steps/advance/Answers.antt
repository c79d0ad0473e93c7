-- Each move keeps what is known between two words, and the measure falls.
use Rattle.std.proofs.Common.{◌+◌, arith}
use Rattle.osgi_resolver_search.proofs.Midway.{midway-at, midway-before, midway-start, midway-on, left-on, midway-next, midway-ended, midway-back, back-range, back-less}
use Rattle.osgi_resolver_search.proofs.steps.advance.Goals as goal

pub has_become_hopeless-requires : goal.has_become_hopeless-requires
has_become_hopeless-requires g c = record {
  before = midway-before _ _ _ _ _ _ c.loop-value.value c.loop-value.values c.loop-value.invariant.midway c.in_ok-longer.ensures.problem c.in_ok-longer.ensures.word;
}

pub returns-then-not-branch-clause-word : goal.returns-then-not-branch-clause-word
returns-then-not-branch-clause-word g c n t =
    midway-at _ _ _ _ _ _ c.loop-value.value c.loop-value.values c.in_ok-has_become_hopeless.field-0 c.requires.problem c.loop-value.invariant.midway (omega (arith, c.if-value-values.true))
    c.in_ok-longer.ensures.problem c.in_ok-longer.ensures.word c.if-not-branch.true c.in_ok-has_become_hopeless.ensures.hopeless n t

pub returns-in-None-clause-word : goal.returns-in-None-clause-word
returns-in-None-clause-word g c n t =
    midway-ended _ _ _ _ c.loop-value.value c.loop-value.values c.requires.problem c.loop-value.invariant.midway (omega (arith, c.if-value-values.false)) c.in-None.ensures.word.0 n t

pub loop-value-init : goal.loop-value-init
loop-value-init g c = record {
  midway = midway-on _ _ _ _ 0 c.next_value-value.result c.values-values.result c.requires.problem (midway-start _ _ c.values-values.result c.requires.word c.requires.hopeful c.values-values.ensures.values)
      c.next_value-value.ensures.range.0 c.next_value-value.ensures.range.1 c.next_value-value.ensures.hopeless;
  fits = omega arith;
}

pub loop-value-preserved-then-value-values : goal.loop-value-preserved-then-value-values
loop-value-preserved-then-value-values g c = record {
  midway = midway-on _ _ _ _ (c.loop-value.value + 1) c.next_value-value-then-value-values.result c.loop-value.values c.requires.problem
      (midway-next _ _ _ _ _ _ _ _ c.loop-value.value c.loop-value.values c.in_ok-has_become_hopeless.field-0 c.shorter.result c.requires.problem c.loop-value.invariant.midway (omega (arith, c.if-value-values.true))
      c.in_ok-longer.ensures.problem c.in_ok-longer.ensures.word c.if-not-branch.false c.in_ok-has_become_hopeless.ensures.hopeless c.shorter.ensures.problem c.shorter.ensures.word)
      c.next_value-value-then-value-values.ensures.range.0 c.next_value-value-then-value-values.ensures.range.1 c.next_value-value-then-value-values.ensures.hopeless;
  fits = c.loop-value.invariant.fits;
}

pub overflow_add-last : goal.overflow_add-last
overflow_add-last g c =
    let below = back-range _ _ _ _ _ _ c.loop-value.value c.loop-value.values c.in-Some.last c.values-values-in-Some.result c.loop-value.invariant.midway c.in-Some.ensures.problem c.in-Some.ensures.word c.values-values-in-Some.ensures.values in
    omega (arith, below)

pub next_value-value-requires-in-Some : goal.next_value-value-requires-in-Some
next_value-value-requires-in-Some g c = record {
  from =
      let below = back-range _ _ _ _ _ _ c.loop-value.value c.loop-value.values c.in-Some.last c.values-values-in-Some.result c.loop-value.invariant.midway c.in-Some.ensures.problem c.in-Some.ensures.word c.values-values-in-Some.ensures.values in
      let size = c.values-values-in-Some.ensures.values in
      omega (arith, below, size);
}

pub loop-value-smaller : goal.loop-value-smaller
loop-value-smaller g c =
    let less = back-less _ _ _ _ _ c.loop-value.value c.loop-value.values c.in-Some.last c.loop-value.invariant.midway (omega (arith, c.if-value-values.false)) c.in-Some.ensures.word in
    left-on (g.W.Walker.problem c.args.walker.now) (g.W.Walker.word c.shorter-else-value-values.new.self) (c.in-Some.last + 1) c.next_value-value-in-Some.result _ c.next_value-value-in-Some.ensures.range.0 less

pub loop-value-preserved : goal.loop-value-preserved
loop-value-preserved g c = record {
  midway = midway-on _ _ _ _ (c.in-Some.last + 1) c.next_value-value-in-Some.result c.values-values-in-Some.result c.requires.problem
      (midway-back _ _ _ _ _ _ c.loop-value.value c.loop-value.values c.in-Some.last c.values-values-in-Some.result c.requires.problem c.loop-value.invariant.midway (omega (arith, c.if-value-values.false))
      c.in-Some.ensures.problem c.in-Some.ensures.word c.values-values-in-Some.ensures.values)
      c.next_value-value-in-Some.ensures.range.0 c.next_value-value-in-Some.ensures.range.1 c.next_value-value-in-Some.ensures.hopeless;
  fits = omega arith;
}
