-- Both are plain imports of the package.
use Rattle.std.proofs.Common.{◌≡◌, ◌∙◌, List, ap, sym, subst}
use Rattle.osgi_resolver_decisions.proofs.Alike.{same-list}
use Rattle.osgi_resolver_decisions.specs.computed.Plain.{IsPlainFor}
use Rattle.osgi_world.specs.Candidates.{CanBeAsked}
use Rattle.osgi_world.specs.declared.world.Known.{Known}
use Rattle.osgi_world.specs.declared.world.World.{World}
use Rattle.osgi_resolver_decisions.proofs.plain.are_alike.Goals as goal

pub returns : goal.returns
returns c = record {
  same = λ t P in_it asks.
      let here : c.known-known.result.now ≡ P.world.known = c.known-known.ensures.known ∙ ap (λ (w : World). w.known) (sym in_it.world) in
      let name = c.args.name.now in
      let asked = subst (λ (K : List Known). CanBeAsked K c.args.other) here (c.can_be_asked.ensures.can c.if-not-can_be_asked.false) in
      let one = subst (λ (K : List Known). IsPlainFor K c.args.one name) here (c.is_plain_for.ensures.plain c.if-not-is_plain_for.false) in
      let two = subst (λ (K : List Known). IsPlainFor K c.args.other name) here (c.is_plain_for-2.ensures.plain t) in
      (asked, same-list P in_it.is c.args.one c.args.other name one two asks asked);
}
