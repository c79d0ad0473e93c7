-- What is so of each owner that is known.
use Rattle.std.proofs.Common.{◌≡◌, None, Some, ap, subst, sym}
use Rattle.std.specs.Prelude.{IfSome, option_copied}
use Rattle.osgi_base.specs.NumberMaps.{value_at}
use Rattle.osgi_world.specs.declared.problem.Problem.{Problem}
use Rattle.osgi_world.specs.declared.world.World.{World}
use Rattle.osgi_resolver_decisions.specs.computed.Known.{FoundOut, IsProblemIn, IsRightOf}
use Rattle.osgi_resolver_decisions.proofs.lists.Lists.owned.Goals as goal

pub returns-clause-right : goal.returns-clause-right
returns-clause-right c =
    let world : c.self.inside.offers ≡ c.args.self.now.offers = ap (λ (found : FoundOut). found.offers) c.self.view_is in
    elim c.get.result as (λ o. option_copied o ≡ value_at c.self.inside.by_owner c.args.owner.0 → IfSome o (λ of. (P : Problem) → IsProblemIn c.args.self.now.offers P → IsRightOf P c.args.owner of.now)) [
      | Some of ↦ λ at P in_it. c.self.invariant P (subst (λ (W : World). IsProblemIn W P) (sym world) in_it) c.args.owner of.now (sym at)
      | None ↦ λ at. tt
    ] c.get.ensures.value
