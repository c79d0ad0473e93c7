-- All of the name are tried.
use Rattle.std.proofs.Common.{List, subst}
use Rattle.osgi_candidates.specs.computed.Collecting.{Extends, IsAtSome}
use Rattle.osgi_candidates.specs.computed.Names.{AreNames}
use Rattle.osgi_candidates.specs.declared.names.Place.{Place}
use Rattle.osgi_candidates.proofs.Proposed.{collects_all}
use Rattle.osgi_world.specs.declared.world.World.{World}
use Rattle.osgi_candidates.proofs.offers.Offers.collected_by_name.Goals as goal

pub returns : goal.returns
returns c =
    let are = subst (λ (w : World). AreNames w.known c.self.inside.index.now.names) c.self.view_is c.self.invariant.1.names in
    record {
      collected = λ fit asks.
          let all = subst (λ (l : List Place). Extends c.args.self.now c.args.at c.new-found.result c.add_places.new.found (IsAtSome l)) c.of-places.ensures.values (c.in_ok-add_places.ensures.added fit asks) in
          collects_all c.args.self.now fit c.self.inside.index.now.names are c.args.at c.args.requirement.now asks c.new-found.result c.add_places.new.found c.new-found.ensures.empty all;
    }
