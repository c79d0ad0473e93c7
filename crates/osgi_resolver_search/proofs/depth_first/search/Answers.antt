-- What each way to end answers, from where the search stands.
use Rattle.std.proofs.Common.{◌≡◌, ◌≤◌, ◌-◌, refl, arith}
use Rattle.osgi_resolver_search.proofs.Stands.{standing-init, hopeless-answer, standing-hopeful, found-answer, standing-next, none-answer, spent-answer, gone-most}
use Rattle.osgi_resolver_search.proofs.depth_first.search.Goals as goal

pub returns-then-branch-clause-outcome : goal.returns-then-branch-clause-outcome
returns-then-branch-clause-outcome g c = hopeless-answer _ _ c.in_ok-is_hopeless.field-0 c.args.budget c.requires.problem c.requires.empty c.if-branch.true c.in_ok-is_hopeless.ensures.hopeless

pub loop-visited-init : goal.loop-visited-init
loop-visited-init g c = record {
  standing = standing-init _ _ c.in_ok-is_hopeless.field-0 c.requires.problem c.requires.empty c.if-branch.false c.in_ok-is_hopeless.ensures.hopeless;
  within = omega arith;
}

pub returns-then-is_complete-clause-outcome : goal.returns-then-is_complete-clause-outcome
returns-then-is_complete-clause-outcome g c =
    found-answer _ _ _ c.loop-visited.visited c.args.budget c.is_complete.result c.requires.problem c.loop-visited.invariant.standing c.loop-visited.invariant.within c.if-is_complete.true c.is_complete.ensures.complete

pub go_on-requires-clause-hopeful : goal.go_on-requires-clause-hopeful
go_on-requires-clause-hopeful g c = standing-hopeful _ _ _ c.loop-visited.visited c.loop-visited.invariant.standing

pub returns-in-None-clause-outcome : goal.returns-in-None-clause-outcome
returns-in-None-clause-outcome g c =
    none-answer _ _ _ _ c.loop-visited.visited c.args.budget c.is_complete.result c.in_ok-go_on.field-0 c.requires.problem c.loop-visited.invariant.standing c.loop-visited-test.true c.if-is_complete.false c.is_complete.ensures.complete
    c.in-None.is c.in_ok-go_on.ensures.word

pub loop-visited-preserved : goal.loop-visited-preserved
loop-visited-preserved g c =
    let most = gone-most c.in_ok-go_on.field-0 c.min.result c.in-Some.gone c.in-Some.is c.in_ok-go_on.ensures.most in
    let within : c.in-Some.gone ≤ c.args.budget - c.loop-visited.visited = omega (arith, most, c.min.ensures) in
    record {
      standing = standing-next _ _ _ _ _ c.loop-visited.visited c.in-Some.gone c.is_complete.result c.in_ok-go_on.field-0 c.loop-visited.invariant.standing c.if-is_complete.false c.is_complete.ensures.complete
          c.in_ok-go_on.ensures.problem c.in-Some.is c.in_ok-go_on.ensures.word;
      within = (let before = c.loop-visited-test.true in omega (arith, within, before));
    }

pub returns-then-is_complete-2-clause-outcome : goal.returns-then-is_complete-2-clause-outcome
returns-then-is_complete-2-clause-outcome g c =
    found-answer _ _ _ c.loop-visited.visited c.args.budget c.is_complete-2.result c.requires.problem c.loop-visited.invariant.standing c.loop-visited.invariant.within c.if-is_complete-2.true c.is_complete-2.ensures.complete

pub returns-clause-outcome : goal.returns-clause-outcome
returns-clause-outcome g c =
    let last : c.loop-visited.visited ≡ c.args.budget = (let h = c.loop-visited.invariant.within in let t = c.loop-visited-test.false in omega (arith, h, t)) in
    (refl, spent-answer _ _ _ c.loop-visited.visited c.args.budget c.is_complete-2.result c.requires.problem c.loop-visited.invariant.standing last c.if-is_complete-2.false c.is_complete-2.ensures.complete)
