-- The path stands at a word of the problem.
use Rattle.std.proofs.Common.{Ok, Err, refl, subst}
use Rattle.std.specs.Bool.{Decides}
use Rattle.std.specs.Prelude.{IfOk}
use Rattle.osgi_resolver_path.specs.Standing.{IsProblemOf}
use Rattle.osgi_world.specs.Hopeless.{IsHopeless}
use Rattle.osgi_world.specs.declared.problem.Problem.{Problem}
use Rattle.osgi_resolver_solve.specs.computed.Layers.{Place, problem_at}
use Rattle.osgi_resolver_solve.proofs.rows_walk.RowsWalkWalker.is_hopeless.Goals as goal

pub returns : goal.returns
returns c = record {
  hopeless =
      let path = c.self.inside.path in
      elim c.is_hopeless.result as (λ r. IfOk r (λ b. (P : Problem) → IsProblemOf path P → Decides b (IsHopeless P path.word)) → IfOk r (λ b. Decides b (IsHopeless c.args.self.now.problem c.args.self.now.word))) [
        | Ok b ↦ λ is. subst (λ (p : Place). Decides b (IsHopeless p.problem p.word)) c.self.view_is (is (problem_at path c.self.inside.rows) (record { world = refl; root_is = refl; is = c.self.invariant.problem }))
        | Err e ↦ λ x. x
      ] c.is_hopeless.ensures.hopeless;
}
