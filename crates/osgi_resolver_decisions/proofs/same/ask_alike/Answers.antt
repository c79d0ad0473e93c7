-- What both ask for.
use Rattle.std.proofs.Common.{◌≡◌, ◌∙◌, List, Some, ap, sym, subst}
use Rattle.osgi_resolver_decisions.proofs.Alike.{same-asked}
use Rattle.osgi_world.specs.Candidates.{CanBeAsked}
use Rattle.osgi_world.specs.Lookups.{requirement_at}
use Rattle.osgi_world.specs.declared.world.Known.{Known}
use Rattle.osgi_world.specs.declared.world.World.{World}
use Rattle.osgi_resolver_decisions.proofs.same.ask_alike.Goals as goal

pub returns : goal.returns
returns c = record {
  same = λ t P in_it asks.
      let here : c.known-known.result.now ≡ P.world.known = c.known-known.ensures.known ∙ ap (λ (w : World). w.known) (sym in_it.world) in
      let n = c.in-Some.asking.now in
      let m = c.in-Some-requirement.asked.now in
      let one : requirement_at P.world.known c.args.one ≡ Some n = subst (λ (K : List Known). requirement_at K c.args.one ≡ Some n) here (sym c.in-Some.ensures.requirement) in
      let other : requirement_at P.world.known c.args.other ≡ Some m = subst (λ (K : List Known). requirement_at K c.args.other ≡ Some m) here (sym c.in-Some-requirement.ensures.requirement) in
      let asked = subst (λ (K : List Known). CanBeAsked K c.args.other) here (c.can_be_asked.ensures.can t) in
      (asked, same-asked P in_it.is c.args.one c.args.other n m one other (c.ask_the_same.ensures.same c.if-not-ask_the_same.false) asks asked);
}
