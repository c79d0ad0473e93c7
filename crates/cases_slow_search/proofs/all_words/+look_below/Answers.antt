-- Each value leads to a longer word, and after all that extend it to the next value.
use Rattle.cases_slow_search.proofs.Moves.{longer, longer-ended, longer-falls, longer-next, longer-passed, longer-problem, longer-word}
use Rattle.cases_slow_search.proofs.all_words.+look_below.Goals as goal

pub look_below-requires : goal.look_below-requires
look_below-requires g t c κs within =
    let l = longer _ _ _ _ _ _ c.loop-value.value c.values-value-end.result c.loop-value.visited c.args.budget c.requires.word c.loop-value.invariant c.loop-value-test.true c.values-value-end.ensures.values
    c.in_ok-longer.ensures.problem c.in_ok-longer.ensures.word in
    let below = longer-falls _ _ _ _ c.loop-value.value t c.requires.problem l c.decreases in
    let word = longer-word _ _ _ _ c.loop-value.value l in
    let passed = longer-passed _ _ _ _ c.loop-value.value c.loop-value.visited l c.loop-value.invariant.passed in
    (below, (within, (longer-problem _ _ _ _ c.loop-value.value l c.requires.problem, (word, (c.requires.budget, (c.loop-value.invariant.within, passed))))))

pub returns-in-Ended-2-clause-seen : goal.returns-in-Ended-2-clause-seen
returns-in-Ended-2-clause-seen g t c =
    let l = longer _ _ _ _ _ _ c.loop-value.value c.values-value-end.result c.loop-value.visited c.args.budget c.requires.word c.loop-value.invariant c.loop-value-test.true c.values-value-end.ensures.values
    c.in_ok-longer.ensures.problem c.in_ok-longer.ensures.word in
    longer-ended _ _ _ _ _ c.loop-value.value c.args.budget c.in_ok-visited-2.field-0 c.in-Ended-2.outcome l c.in_ok-visited-2.ensures.seen c.in-Ended-2.is

pub loop-value-preserved : goal.loop-value-preserved
loop-value-preserved g t c =
    let l = longer _ _ _ _ _ _ c.loop-value.value c.values-value-end.result c.loop-value.visited c.args.budget c.requires.word c.loop-value.invariant c.loop-value-test.true c.values-value-end.ensures.values
    c.in_ok-longer.ensures.problem c.in_ok-longer.ensures.word in
    longer-next _ _ _ _ _ _ _ _ c.loop-value.value c.in-Passed-2.visited c.args.budget c.in_ok-visited-2.field-0 c.shorter.result c.requires.problem l c.in_ok-visited-2.ensures.problem
    c.in_ok-visited-2.ensures.seen c.in_ok-visited-2.ensures.stays c.in-Passed-2.is c.shorter.ensures.problem c.shorter.ensures.word
