-- The names of the revisions that became known are added.
use Rattle.std.proofs.Common.{List, ◌++◌, ap, drop, length, refl, subst, ◌∙◌}
use Rattle.osgi_candidates.specs.computed.Names.{AreNames, AreOnce}
use Rattle.osgi_candidates.specs.declared.offer_index.OfferIndex.{OfferIndex}
use Rattle.osgi_candidates.proofs.Following.{halfway_is, part_from}
use Rattle.osgi_world.specs.declared.world.Known.{Known}
use Rattle.osgi_candidates.proofs.offer_index.OfferIndex.add_known.Goals as goal

pub returns : goal.returns
returns c =
    let old = c.args.self.now in
    let w = c.args.world.now in
    let items = c.items-known.ensures.items in
    let part = part_from c.items-known.result.now old.known ∙ ap (λ l. drop old.known l) items in
    let new : OfferIndex = record { known = length c.items-known.result.now; wirings = old.wirings; names = c.add_all.new.self; held = old.held; in_use = old.in_use } in
    let added = subst (λ (L : List Known). (K : List Known) → AreOnce (K ++ L) → AreNames K old.names → AreNames (K ++ L) c.add_all.new.self) part c.in_ok-add_all.ensures.added in
    record { halfway = halfway_is old new w.known w.wirings c.requires.follows c.requires.is_world.known_once (ap length items) refl refl refl added }
