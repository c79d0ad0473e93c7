-- The path is one of the problem.
use Rattle.std.proofs.Common.{ℕ, refl, subst}
use Rattle.osgi_resolver.specs.Answers.{IsAnswer}
use Rattle.osgi_resolver_solve.specs.computed.Layers.{Place, problem_at}
use Rattle.osgi_resolver_search.specs.Outcomes.{IsOutcome}
use Rattle.osgi_resolver_solve.proofs.rows_walk.RowsWalk.answer.Goals as goal

pub returns : goal.returns
returns c = record {
  answer =
      let P = problem_at c.self.inside.path c.self.inside.rows in
      subst (λ (p : Place). (budget : ℕ) → IsOutcome p.problem budget p.word c.args.outcome → IsAnswer p.problem budget c.in_ok-answer.answer) c.self.view_is
      (λ budget. c.in_ok-answer.ensures.answer P budget (record { world = refl; root_is = refl; is = c.self.invariant.problem }));
}
