-- The path stands at a word of the problem that lists all candidates.
use Rattle.std.proofs.Common.{Ok, Err, refl, sym, subst}
use Rattle.std.specs.Bool.{Decides}
use Rattle.std.specs.Prelude.{IfOk}
use Rattle.osgi_resolver_search.specs.Before.{IsHopefulBefore}
use Rattle.osgi_resolver_path.specs.Standing.{IsProblemOf, Standing}
use Rattle.osgi_resolver_theory.specs.WorldProblems.{the_problem}
use Rattle.osgi_world.specs.Hopeless.{IsHopeless}
use Rattle.osgi_world.specs.declared.problem.Problem.{Problem}
use Rattle.osgi_resolver.proofs.walk.WalkWalker.has_become_hopeless.Goals as goal

pub returns : goal.returns
returns c = record {
  hopeless =
      let path = c.self.inside.path in
      let before : IsHopefulBefore (the_problem path.world path.root) path.word = subst (λ (s : Standing). IsHopefulBefore (the_problem s.world s.root) s.word) (sym c.self.view_is) c.requires.before in
      elim c.has_become_hopeless.result as (λ r. IfOk r (λ b. (P : Problem) → IsProblemOf path P → IsHopefulBefore P path.word → Decides b (IsHopeless P path.word)) → IfOk r (λ b. Decides b (IsHopeless (the_problem c.args.self.now.world c.args.self.now.root) c.args.self.now.word))) [
        | Ok b ↦ λ is. subst (λ s. Decides b (IsHopeless (the_problem s.world s.root) s.word)) c.self.view_is (is (the_problem path.world path.root) (record { world = refl; root_is = refl; is = c.self.invariant }) before)
        | Err e ↦ λ x. x
      ] c.has_become_hopeless.ensures.hopeless;
}
