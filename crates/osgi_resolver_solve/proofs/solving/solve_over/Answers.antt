-- The path begins at the problem, and the rows are its choices.
use Rattle.std.proofs.Common.{◌≡◌, ◌∙◌, ap, sym, subst}
use Rattle.osgi_candidate_rows.specs.Listed.{Listed}
use Rattle.osgi_resolver_path.specs.Standing.{Standing}
use Rattle.osgi_resolver_search.specs.Outcomes.{IsOutcome}
use Rattle.osgi_world.specs.Candidates.{IsProblem}
use Rattle.osgi_world.specs.declared.problem.Problem.{Problem}
use Rattle.osgi_resolver.specs.Answers.{IsAnswer}
use Rattle.osgi_resolver_solve.specs.computed.Layers.{Place}
use Rattle.osgi_resolver_solve.proofs.Layers.{at-problem}
use Rattle.osgi_resolver_solve.proofs.solving.solve_over.Goals as goal

pub new-walk-requires : goal.new-walk-requires
new-walk-requires c =
    let P = c.args.problem.now in
    let s = c.in_ok-path.path in
    let l = c.in_ok-rows.rows in
    let at = at-problem P s l c.items-3.result.now c.in_ok-path.ensures.empty c.in_ok-rows.ensures.rows c.items-3.ensures.items in
    record { problem = subst IsProblem (sym at) c.requires.problem; empty = ap (λ (x : Standing). x.word) c.in_ok-path.ensures.empty; all = ap (λ (x : Listed). x.out) c.in_ok-rows.ensures.rows }

pub search-requires-clause-problem : goal.search-requires-clause-problem
search-requires-clause-problem c =
    let P = c.args.problem.now in
    let at = at-problem P c.in_ok-path.path c.in_ok-rows.rows c.items-3.result.now c.in_ok-path.ensures.empty c.in_ok-rows.ensures.rows c.items-3.ensures.items in
    subst IsProblem (sym (ap (λ (p : Place). p.problem) c.new-walk.ensures.there ∙ at)) c.requires.problem

pub search-requires-clause-empty : goal.search-requires-clause-empty
search-requires-clause-empty c = ap (λ (p : Place). p.word) c.new-walk.ensures.there

pub returns : goal.returns
returns c =
    let P = c.args.problem.now in
    let budget = c.args.budget in
    let p : Place = c.search.new.walker in
    let outcome = c.in_ok-outcome.outcome in
    let at = at-problem P c.in_ok-path.path c.in_ok-rows.rows c.items-3.result.now c.in_ok-path.ensures.empty c.in_ok-rows.ensures.rows c.items-3.ensures.items in
    let same : p.problem ≡ P = c.in_ok-outcome.ensures.problem ∙ ap (λ (p : Place). p.problem) c.new-walk.ensures.there ∙ at in
    let ended : IsOutcome p.problem budget p.word outcome = subst (λ (Q : Problem). IsOutcome Q budget p.word outcome) (sym c.in_ok-outcome.ensures.problem) c.in_ok-outcome.ensures.outcome in
    record { answer = subst (λ (Q : Problem). IsAnswer Q budget c.in_ok-answer.answer) same (c.in_ok-answer.ensures.answer budget ended) }
