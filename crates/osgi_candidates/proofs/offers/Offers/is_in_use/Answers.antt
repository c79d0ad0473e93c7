-- A revision is in use where it is in the set.
use Rattle.std.proofs.Common.{subst, sym, ◌∙◌}
use Rattle.osgi_candidates.specs.computed.InUses.{AreInUse}
use Rattle.osgi_world.specs.declared.world.World.{World}
use Rattle.osgi_candidates.proofs.offers.Offers.is_in_use.Goals as goal

pub returns : goal.returns
returns c =
    let are = subst (λ (w : World). AreInUse w.wirings c.self.inside.index.now.in_use) c.self.view_is c.self.invariant.1.in_use in
    let is = are c.args.revision in
    record { in_use = (λ t. is.0 (sym c.contains.ensures ∙ t), λ u. c.contains.ensures ∙ is.1 u) }
