-- It is on offer, or its provider is settled or not.
use Rattle.std.proofs.Common.{◌↔◌, subst, IsTrue}
use Rattle.osgi_resolver_theory.proofs.Complete.{provider-in_force}
use Rattle.osgi_space_rules.proofs.OneValue.{not_true}
use Rattle.osgi_resolver_hopeless.proofs.Answering.{known-is, no}
use Rattle.osgi_resolver_path.specs.Standing.{made}
use Rattle.osgi_world.specs.Partial.{partial}
use Rattle.osgi_world.specs.Wirings.{OnOffer}
use Rattle.osgi_resolver_hopeless.proofs.offer.is_lost_now.Goals as goal

pub returns-then-is_on_offer : goal.returns-then-is_on_offer
returns-then-is_on_offer c = record {
  lost = λ P L has.
      let W = partial P (made P c.args.path.now) in
      let offer : IsTrue c.is_on_offer.result ↔ OnOffer P.world.known W c.args.wired.wire.capability =
      subst (λ K. IsTrue c.is_on_offer.result ↔ OnOffer K W c.args.wired.wire.capability) (known-is c.args.path.now P L c.rows.result.now.known c.rows.ensures.known) (c.is_on_offer.ensures.offer W (c.rows.ensures.rows P L)) in
      no (λ lost. lost.1 (offer.0 c.if-is_on_offer.true));
}

pub returns : goal.returns
returns c = record {
  lost = λ P L has.
      let W = partial P (made P c.args.path.now) in
      let offer : IsTrue c.is_on_offer.result ↔ OnOffer P.world.known W c.args.wired.wire.capability =
      subst (λ K. IsTrue c.is_on_offer.result ↔ OnOffer K W c.args.wired.wire.capability) (known-is c.args.path.now P L c.rows.result.now.known c.rows.ensures.known) (c.is_on_offer.ensures.offer W (c.rows.ensures.rows P L)) in
      let is = c.in_ok-is_settled.ensures.settled P L (provider-in_force P L.is (made P c.args.path.now) c.args.wired.revision c.args.wired.wire has) in
      (λ t. (is.0 t, λ o. not_true _ c.if-is_on_offer.false (offer.1 o)), λ lost. is.1 lost.0);
}
