-- The path stands at a word of the problem.
use Rattle.std.proofs.Common.{◌≡◌, refl, subst}
use Rattle.osgi_world.specs.ChoiceWords.{made_by, width}
use Rattle.osgi_resolver_solve.specs.computed.Layers.{Place, problem_at}
use Rattle.osgi_resolver_solve.proofs.rows_walk.RowsWalkWalker.values.Goals as goal

pub returns : goal.returns
returns c = record {
  values =
      subst (λ (p : Place). c.values.result ≡ width p.problem (made_by p.problem p.word)) c.self.view_is
      (c.values.ensures.values (problem_at c.self.inside.path c.self.inside.rows) (record { world = refl; root_is = refl; is = c.self.invariant.problem }));
}
