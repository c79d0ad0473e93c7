-- The path stands at a word of the problem.
use Rattle.std.proofs.Common.{refl, subst}
use Rattle.std.specs.Bool.{Decides}
use Rattle.osgi_world.specs.ChoiceWords.{IsComplete}
use Rattle.osgi_resolver_solve.specs.computed.Layers.{Place, problem_at}
use Rattle.osgi_resolver_solve.proofs.rows_walk.RowsWalkWalker.is_complete.Goals as goal

pub returns : goal.returns
returns c = record {
  complete =
      subst (λ (p : Place). Decides c.is_complete.result (IsComplete p.problem p.word)) c.self.view_is
      (c.is_complete.ensures.complete (problem_at c.self.inside.path c.self.inside.rows) (record { world = refl; root_is = refl; is = c.self.invariant.problem }));
}
