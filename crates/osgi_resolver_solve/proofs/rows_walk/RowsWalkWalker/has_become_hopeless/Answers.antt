-- The path stands at a word of the problem.
use Rattle.std.proofs.Common.{Ok, Err, refl, sym, subst}
use Rattle.std.specs.Bool.{Decides}
use Rattle.std.specs.Prelude.{IfOk}
use Rattle.osgi_resolver_search.specs.Before.{IsHopefulBefore}
use Rattle.osgi_resolver_path.specs.Standing.{IsProblemOf}
use Rattle.osgi_world.specs.Hopeless.{IsHopeless}
use Rattle.osgi_world.specs.declared.problem.Problem.{Problem}
use Rattle.osgi_resolver_solve.specs.computed.Layers.{Place, problem_at}
use Rattle.osgi_resolver_solve.proofs.rows_walk.RowsWalkWalker.has_become_hopeless.Goals as goal

pub returns : goal.returns
returns c = record {
  hopeless =
      let path = c.self.inside.path in
      let P = problem_at path c.self.inside.rows in
      let before : IsHopefulBefore P path.word = subst (λ (p : Place). IsHopefulBefore p.problem p.word) (sym c.self.view_is) c.requires.before in
      elim c.has_become_hopeless.result as (λ r. IfOk r (λ b. (P : Problem) → IsProblemOf path P → IsHopefulBefore P path.word → Decides b (IsHopeless P path.word)) → IfOk r (λ b. Decides b (IsHopeless c.args.self.now.problem c.args.self.now.word))) [
        | Ok b ↦ λ is. subst (λ (p : Place). Decides b (IsHopeless p.problem p.word)) c.self.view_is (is P (record { world = refl; root_is = refl; is = c.self.invariant.problem }) before)
        | Err e ↦ λ x. x
      ] c.has_become_hopeless.ensures.hopeless;
}
