-- It is known then.
use Rattle.std.proofs.Common.{◌≡◌, ◌∙◌, Ok, Err, IsTrue, sym}
use Rattle.std.specs.Prelude.{IfOk}
use Rattle.osgi_world.specs.Lookups.{is_current}
use Rattle.osgi_world.specs.declared.problem.Problem.{Problem}
use Rattle.osgi_resolver_decisions.specs.computed.Asks.{decisions_in, first_due}
use Rattle.osgi_resolver_decisions.specs.computed.Known.{IsProblemIn, Knows}
use Rattle.osgi_resolver_path.proofs.growing.first_of.Goals as goal

pub returns-clause-first : goal.returns-clause-first
returns-clause-first c =
    let old = c.args.lists.now in
    let new = c.learn.new.self in
    let member = c.args.member in
    elim c.first_of.result as (λ r. IfOk r (λ first. (P : Problem) → IsProblemIn new.offers P → Knows new member → IsTrue (is_current P.world.known member) → decisions_in first ≡ first_due P member) →
    IfOk r (λ first. (P : Problem) → IsProblemIn old.offers P → IsTrue (is_current P.world.known member) → decisions_in first ≡ first_due P member)) [
      | Ok x ↦ λ is P in_it current. is P (record { world = in_it.world ∙ sym c.in_ok-learn.ensures.nothing_lost.offers; is = in_it.is }) c.in_ok-learn.ensures.known current
      | Err e ↦ λ x. x
    ] c.first_of.ensures.first
