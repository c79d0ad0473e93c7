-- One more place, and all of them.
use Rattle.std.proofs.Common.{List, get_or, subst}
use Rattle.std.proofs.lemmas.List.{take_all}
use Rattle.osgi_candidates.specs.computed.Collecting.{Extends, IsAtSome}
use Rattle.osgi_candidates.specs.computed.Names.{place_at}
use Rattle.osgi_candidates.specs.declared.names.Place.{Place}
use Rattle.osgi_candidates.proofs.Collected.{places_more, places_none}
use Rattle.osgi_space_rules.proofs.Items.{no_revision, there}
use Rattle.osgi_candidates.proofs.offers.Offers.add_places.Goals as goal

pub loop-place-init : goal.loop-place-init
loop-place-init c = λ fit asks. places_none c.args.self.now c.args.at c.args.found.now

pub loop-place-preserved : goal.loop-place-preserved
loop-place-preserved c = λ fit asks.
    let places = c.args.places.now in
    let i = c.loop-place.place-index in
    let within = c.loop-place-test.true in
    let none : Place = place_at no_revision 0 in
    places_more c.args.self.now c.args.at c.args.found.now c.loop-place.found c.add_place.new.found places i (get_or places i none) within (there places i none within) (c.loop-place.invariant fit asks) (c.in_ok-add_place.ensures.added fit asks)

pub returns : goal.returns
returns c = record {
  added = λ fit asks.
      subst (λ (l : List Place). Extends c.args.self.now c.args.at c.args.found.now c.loop-place.found (IsAtSome l)) (take_all c.loop-place.place-index c.args.places.now c.loop-place-test.false)
      (c.loop-place.invariant fit asks);
}
