-- The wirings of the members.
use Rattle.std.proofs.Common.{◌≡◌, ◌∙◌, Ok, Err, ap, sym}
use Rattle.std.specs.Prelude.{IfOk}
use Rattle.osgi_world.specs.Partial as partial
use Rattle.osgi_world.specs.declared.problem.Problem.{Problem}
use Rattle.osgi_resolver_path.specs.Standing.{IsProblemOf, made}
use Rattle.osgi_resolver_path.specs.computed.Views.{IsReady, decided_in}
use Rattle.osgi_resolver_path.proofs.OnWay.{made-at, ready-at}
use Rattle.osgi_resolver_path.proofs.path.Path.added.Goals as goal

pub returns : goal.returns
returns c = record {
  added =
      let lists = c.self.inside.lists in
      let course = c.self.inside.course in
      elim c.added.result as (λ r. IfOk r (λ list. (P : Problem) → IsReady P lists course → list ≡ partial.added P (decided_in course)) → IfOk r (λ list. (P : Problem) → IsProblemOf c.args.self.now P → list ≡ partial.added P (made P c.args.self.now))) [
        | Ok x ↦ λ is P of. is P (ready-at c.self.inside.world.now c.self.inside.root c.self.inside.lists c.self.inside.spaces c.self.inside.course c.self.invariant c.args.self.now (sym c.self.view_is) P of) ∙ ap (partial.added P) (sym (made-at c.self.inside.world.now c.self.inside.root c.self.inside.lists c.self.inside.spaces c.self.inside.course c.self.invariant c.args.self.now (sym c.self.view_is) P of))
        | Err e ↦ λ x. x
      ] c.added.ensures.added;
}
