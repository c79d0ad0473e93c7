-- All that have the text are tried.
use Rattle.std.proofs.Common.{List, subst}
use Rattle.osgi_candidates.specs.computed.Collecting.{Extends, IsAtSome}
use Rattle.osgi_candidates.specs.computed.Names.{AreNames}
use Rattle.osgi_candidates.specs.declared.names.Place.{Place}
use Rattle.osgi_candidates.proofs.Proposed.{collects_text}
use Rattle.osgi_world.specs.declared.world.World.{World}
use Rattle.osgi_candidates.proofs.offers.Offers.collected_by_text.Goals as goal

pub returns : goal.returns
returns c =
    let w = c.args.self.now in
    let names = c.self.inside.index.now.names in
    let are = subst (λ (w : World). AreNames w.known names) c.self.view_is c.self.invariant.1.names in
    let none = c.new-found.result in
    let one = c.add_places.new.found in
    let two = c.add_places-2.new.found in
    let all = c.add_places-3.new.found in
    record {
      collected = λ fit asks text.
          let x = subst (λ (l : List Place). Extends w c.args.at none one (IsAtSome l)) c.of.ensures.values (c.in_ok-add_places.ensures.added fit asks) in
          let y = subst (λ (l : List Place). Extends w c.args.at one two (IsAtSome l)) c.of-2.ensures.values (c.in_ok-add_places-2.ensures.added fit asks) in
          let z = subst (λ (l : List Place). Extends w c.args.at two all (IsAtSome l)) c.of-3.ensures.values (c.in_ok-add_places-3.ensures.added fit asks) in
          collects_text w fit names are c.args.at c.args.requirement.now c.args.key.now asks text none one two all c.new-found.ensures.empty x y z;
    }
