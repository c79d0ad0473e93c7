-- What each kind of word comes to.
use Rattle.std.proofs.Common.{refl, arith}
use Rattle.cases_slow_search.proofs.Moves.{at-hopeful, found-here, passed-hopeless, passed-visited, spent-here}
use Rattle.cases_slow_search.proofs.seen.look_at.Goals as goal

pub returns-then-branch : goal.returns-then-branch
returns-then-branch g c = record { seen = (c.requires.within, passed-hopeless _ _ c.args.visited c.in_ok-is_hopeless.field-0 c.requires.passed c.if-branch.true c.in_ok-is_hopeless.ensures.hopeless) }

pub returns-then-is_complete : goal.returns-then-is_complete
returns-then-is_complete g c = record {
  seen =
      found-here _ _ c.args.visited c.args.budget c.is_complete.result c.requires.problem
      (at-hopeful _ _ c.args.visited c.in_ok-is_hopeless.field-0 c.requires.word c.requires.passed c.if-branch.false c.in_ok-is_hopeless.ensures.hopeless) c.requires.within c.if-is_complete.true c.is_complete.ensures.complete;
}

pub returns-then-visited-budget : goal.returns-then-visited-budget
returns-then-visited-budget g c = record {
  seen = (
    refl,
    spent-here _ _ c.args.visited c.args.budget c.is_complete.result c.requires.problem
        (at-hopeful _ _ c.args.visited c.in_ok-is_hopeless.field-0 c.requires.word c.requires.passed c.if-branch.false c.in_ok-is_hopeless.ensures.hopeless) c.if-visited-budget.true c.if-is_complete.false c.is_complete.ensures.complete,
  );
}

pub returns : goal.returns
returns g c = record {
  seen = (
    omega arith,
    passed-visited _ _ c.args.visited c.is_complete.result c.requires.problem
        (at-hopeful _ _ c.args.visited c.in_ok-is_hopeless.field-0 c.requires.word c.requires.passed c.if-branch.false c.in_ok-is_hopeless.ensures.hopeless) c.if-is_complete.false c.is_complete.ensures.complete,
  );
}
