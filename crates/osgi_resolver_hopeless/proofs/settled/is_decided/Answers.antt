-- A member is asked about itself, and another one is in force in the world.
use Rattle.std.proofs.Common.{◌↔◌, inl, sym, ◌∙◌, subst, IsTrue}
use Rattle.osgi_resolver_hopeless.proofs.Answering.{yes}
use Rattle.osgi_resolver_hopeless.proofs.Settling.{decided-old, decided-own}
use Rattle.osgi_resolver_path.specs.Standing.{made}
use Rattle.osgi_world.specs.Wirings.{InForce}
use Rattle.osgi_world.specs.declared.world.World.{World}
use Rattle.osgi_resolver_hopeless.proofs.settled.is_decided.Goals as goal

pub returns-then-is_decided : goal.returns-then-is_decided
returns-then-is_decided c = record {
  decided = λ P L i. yes (decided-own P L.is (made P c.args.path.now) c.args.revision i c.is_decided.result (c.is_decided.ensures.decided P L) c.if-is_decided.true);
}

pub returns : goal.returns
returns c = record {
  decided = λ P L i.
      let old : IsTrue c.is_in_force.result ↔ InForce P.world.wirings c.args.revision =
      subst (λ (w : World). IsTrue c.is_in_force.result ↔ InForce w.wirings c.args.revision) (c.offers.ensures.world ∙ sym L.world) c.is_in_force.ensures.in_force in (
        λ t. inl (old.0 t),
        λ d. old.1 (decided-old P L.is (made P c.args.path.now) c.args.revision i c.is_decided.result (c.is_decided.ensures.decided P L) c.if-is_decided.false d),
      );
}
