-- A revision is in force where its wiring is held.
use Rattle.std.proofs.Common.{subst}
use Rattle.osgi_candidates.specs.computed.Holding.{AreHeld}
use Rattle.osgi_candidates.proofs.Standing.{in_force_is}
use Rattle.osgi_world.specs.declared.world.World.{World}
use Rattle.osgi_candidates.proofs.offers.Offers.is_in_force.Goals as goal

pub returns : goal.returns
returns c =
    let w = c.args.self.now in
    let are = subst (λ (w : World). AreHeld w.known w.wirings c.self.inside.index.now.held) c.self.view_is c.self.invariant.1.held in
    let is = in_force_is w.known w.wirings c.self.inside.index.now.held are c.args.revision in
    record { in_force = (λ t. is.0 (c.has.ensures.has.0 t), λ f. c.has.ensures.has.1 (is.1 f)) }
