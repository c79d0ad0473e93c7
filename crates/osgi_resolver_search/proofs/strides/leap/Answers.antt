-- What is left of the decisions that were made.
use Rattle.std.proofs.Common.{◌≤◌, ◌/◌, arith}
use Rattle.osgi_resolver_search.proofs.Zeros.{made-hopeful, made-less, made-none}
use Rattle.osgi_resolver_search.proofs.strides.leap.Goals as goal

pub returns-then-not-branch-clause-hopeful : goal.returns-then-not-branch-clause-hopeful
returns-then-not-branch-clause-hopeful g c some = made-hopeful _ _ _ _ c.loop-made.made c.in_ok-is_hopeless.field-0 c.loop-made.invariant.has c.if-not-branch.true c.in_ok-is_hopeless.ensures.hopeless

pub loop-made-preserved : goal.loop-made-preserved
loop-made-preserved g c =
    let half : c.loop-made.made / 2 ≤ c.loop-made.made = omega arith in
    record {
      has = made-less _ _ _ _ _ _ c.loop-made.made (c.loop-made.made / 2) c.loop-made.invariant.has half c.take_back.ensures.problem c.take_back.ensures.word;
      most = omega (arith, half, c.loop-made.invariant.most);
    }

pub returns-clause-first : goal.returns-clause-first
returns-clause-first g c = (made-none _ _ _ _ _ _ c.loop-made.made c.loop-made.invariant.has c.take_back-2.ensures.problem c.take_back-2.ensures.word).zeros

pub returns-clause-word : goal.returns-clause-word
returns-clause-word g c = (made-none _ _ _ _ _ _ c.loop-made.made c.loop-made.invariant.has c.take_back-2.ensures.problem c.take_back-2.ensures.word).word
