-- The list of the other one.
use Rattle.std.proofs.Common.{◌∙◌, sym, subst}
use Rattle.osgi_resolver_decisions.proofs.Alike.{some-like}
use Rattle.osgi_resolver_decisions.specs.computed.Known.{IsProblemIn}
use Rattle.osgi_world.specs.declared.world.World.{World}
use Rattle.osgi_resolver_decisions.proofs.lists.Lists.listed_alike.Goals as goal

pub returns : goal.returns
returns c = record {
  alike = some-like _ _ c.listed.result
      (λ list listed P in_it asked. let both = c.are_alike.ensures.same c.if-not-are_alike.false P (subst (λ (W : World). IsProblemIn W P) (sym c.offers-2.ensures.world) in_it) asked in listed P in_it both.0 ∙ both.1)
      c.listed.ensures.listed;
}
