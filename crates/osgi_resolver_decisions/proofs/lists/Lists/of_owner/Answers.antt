-- What is known of the owner.
use Rattle.std.proofs.Common.{List, sym, subst}
use Rattle.std.specs.Global.{Vec}
use Rattle.osgi_world.specs.declared.wiring.CapRef.{CapRef}
use Rattle.osgi_resolver_decisions.specs.computed.Known.{AreListsOf}
use Rattle.osgi_resolver_decisions.proofs.lists.Lists.of_owner.Goals as goal

pub returns-in-Some : goal.returns-in-Some
returns-in-Some c = record {
  lists = λ knows. subst (λ (lists : List (Vec CapRef)). AreListsOf c.args.self.now.offers c.args.owner lists) (sym c.as_slice.ensures.value) (λ P q in_it e asked. (c.in-Some.ensures.right P in_it).candidates_are q e asked);
}
