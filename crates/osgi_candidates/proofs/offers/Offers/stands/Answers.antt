-- The provider is in force, or not.
use Rattle.std.proofs.Common.{sym, subst}
use Rattle.osgi_candidates.specs.computed.Holding.{AreHeld}
use Rattle.osgi_candidates.proofs.Tested.{stands_held, stands_none}
use Rattle.osgi_world.specs.declared.world.World.{World}
use Rattle.osgi_candidates.proofs.offers.Offers.stands.Goals as goal

pub returns-in-Some : goal.returns-in-Some
returns-in-Some c =
    let are = subst (λ (w : World). AreHeld w.known w.wirings c.self.inside.index.now.held) c.self.view_is c.self.invariant.1.held in
    record { stands = λ fit. stands_held c.args.self.now fit c.self.inside.index.now.held are c.args.capability c.in-Some.held.now c.is_on_offer.result (sym c.in-Some.ensures.held) c.is_on_offer.ensures.offer }

pub returns-in-None : goal.returns-in-None
returns-in-None c =
    let are = subst (λ (w : World). AreHeld w.known w.wirings c.self.inside.index.now.held) c.self.view_is c.self.invariant.1.held in
    record { stands = λ fit. stands_none c.args.self.now fit c.self.inside.index.now.held are c.args.capability c.is_to_come.result (sym c.in-None.ensures.held) c.is_to_come.ensures.to_come }
