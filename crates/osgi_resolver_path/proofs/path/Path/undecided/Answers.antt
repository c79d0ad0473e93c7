-- Of the decisions of the course.
use Rattle.std.proofs.Common.{◌↔◌, ℕ, Ok, Err, sym, subst}
use Rattle.std.specs.Prelude.{IfOk}
use Rattle.osgi_space_rows.specs.Agree.{id}
use Rattle.osgi_world.specs.Decisions.{Made}
use Rattle.osgi_world.specs.DueDecisions.{members}
use Rattle.osgi_world.specs.Hopeless.{IsDecided}
use Rattle.osgi_world.specs.Lists.{In}
use Rattle.osgi_world.specs.declared.problem.Problem.{Problem}
use Rattle.osgi_resolver_path.specs.Standing.{IsProblemOf, made}
use Rattle.osgi_resolver_decisions.specs.computed.Known.{IsProblemIn}
use Rattle.osgi_resolver_path.specs.computed.Moving.{IsLearnt}
use Rattle.osgi_resolver_path.specs.computed.Views.{IsAt, decided_in}
use Rattle.osgi_resolver_path.proofs.OnWay.{lists-at, made-at, stands-at}
use Rattle.osgi_resolver_path.proofs.path.Path.undecided.Goals as goal

pub returns : goal.returns
returns c = record {
  undecided =
      let course = c.self.inside.course in
      let lists = c.self.inside.lists in
      elim c.undecided.result as (λ r. IfOk r (λ list. (P : Problem) → IsProblemIn lists.offers P → IsLearnt lists course → IsAt P course → (n : ℕ) → In n list.items ↔ In (id n) (members P (decided_in course)) × ¬ IsDecided P (decided_in course) (id n)) → IfOk r (λ list. (P : Problem) → IsProblemOf c.args.self.now P → (n : ℕ) → In n list.items ↔ In (id n) (members P (made P c.args.self.now)) × ¬ IsDecided P (made P c.args.self.now) (id n))) [
        | Ok x ↦ λ is P of n. subst (λ (D : Made). In n x.items ↔ In (id n) (members P D) × ¬ IsDecided P D (id n)) (sym (made-at c.self.inside.world.now c.self.inside.root lists c.self.inside.spaces course c.self.invariant c.args.self.now (sym c.self.view_is) P of)) (is P (lists-at c.self.inside.world.now c.self.inside.root lists c.self.inside.spaces course c.self.invariant c.args.self.now (sym c.self.view_is) P of) c.self.invariant.learnt (stands-at c.self.inside.world.now c.self.inside.root lists c.self.inside.spaces course c.self.invariant c.args.self.now (sym c.self.view_is) P of) n)
        | Err e ↦ λ x. x
      ] c.undecided.ensures.undecided;
}
