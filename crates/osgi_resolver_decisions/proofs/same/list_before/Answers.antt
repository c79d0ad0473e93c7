-- The list of the one before.
use Rattle.std.proofs.Common.{◌≡◌, ◌<◌, ◌∙◌, None, Some, arith, refl}
use Rattle.std.specs.Prelude.{IfSome}
use Rattle.std.specs.Slice.{IsItemAt}
use Rattle.osgi_world.specs.Candidates.{CanBeAsked, candidates}
use Rattle.osgi_world.specs.declared.problem.Problem.{Problem}
use Rattle.osgi_world.specs.declared.wiring.ReqRef.{ReqRef}
use Rattle.osgi_resolver_decisions.specs.computed.Known.{IsProblemIn}
use Rattle.osgi_resolver_decisions.proofs.Owners.{lent-listed}
use Rattle.osgi_resolver_decisions.proofs.same.list_before.Goals as goal

pub returns : goal.returns
returns c = record {
  alike =
      let q = c.args.requirement in
      let lists = c.args.before.now in
      let index = c.in_ok-index.index in
      let other : ReqRef = record { owner = q.owner; index = index } in
      let less : index < q.index = omega (arith, c.in_ok-index.ensures) in
      elim c.get.result as (λ o. IsItemAt lists index o → IfSome o (λ list. (P : Problem) → IsProblemIn c.args.offers.now P → CanBeAsked P.world.known q → list.now.items ≡ candidates P q)) [
        | Some list ↦ λ at P in_it asked.
            let both = c.ask_alike.ensures.same c.if-not-ask_alike.false P in_it asked in
            lent-listed lists index list (candidates P other) at (c.requires.before P other in_it refl less both.0) ∙ both.1
        | None ↦ λ at. tt
      ] c.get.ensures.lookup;
}
