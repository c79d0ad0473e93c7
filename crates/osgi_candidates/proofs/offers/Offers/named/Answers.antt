-- The revisions stand under their names.
use Rattle.std.proofs.Common.{◌≡◌, ◌↔◌, List, sym, subst}
use Rattle.osgi_base.specs.declared.ids.RevisionId.{RevisionId}
use Rattle.osgi_candidates.specs.computed.Names.{AreNames}
use Rattle.osgi_world.specs.Lists.{In}
use Rattle.osgi_world.specs.Lookups.{IsKnown, symbolic_name}
use Rattle.osgi_world.specs.declared.world.World.{World}
use Rattle.osgi_candidates.proofs.offers.Offers.named.Goals as goal

pub returns : goal.returns
returns c =
    let w = c.args.self.now in
    let are = subst (λ (w : World). AreNames w.known c.self.inside.index.now.names) c.self.view_is c.self.invariant.1.names in
    record { named = λ r. subst (λ (l : List RevisionId). In r l ↔ (IsKnown w.known r × (symbolic_name w.known r ≡ c.args.name.now))) (sym c.of.ensures.values) (are.revisions c.args.name.now r) }
