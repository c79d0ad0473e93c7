-- The wirings that are new are added.
use Rattle.std.proofs.Common.{◌≡◌, List, ◌++◌, ap, drop, length, refl, subst, ◌∙◌}
use Rattle.osgi_candidates.specs.computed.Holding.{AreHeld}
use Rattle.osgi_candidates.specs.computed.InUses.{AreInUse}
use Rattle.osgi_candidates.specs.declared.offer_index.OfferIndex.{OfferIndex}
use Rattle.osgi_candidates.proofs.Following.{covered_now, part_from}
use Rattle.osgi_world.specs.declared.wiring.Wiring.{Wiring}
use Rattle.osgi_world.specs.declared.world.Known.{Known}
use Rattle.osgi_candidates.proofs.offer_index.OfferIndex.add_wirings.Goals as goal

pub returns : goal.returns
returns c =
    let old = c.args.self.now in
    let w = c.args.world.now in
    let items = c.items-wirings.ensures.items in
    let known : c.in_ok-known.known ≡ w.known = c.in_ok-known.ensures.known ∙ c.items.ensures.items in
    let part = part_from c.items-wirings.result.now old.wirings ∙ ap (λ l. drop old.wirings l) items in
    let new : OfferIndex = record { known = old.known; wirings = length c.items-wirings.result.now; names = old.names; held = c.add_all.new.self; in_use = c.add_all_in_use.new.in_use } in
    let held = subst (λ (K : List Known). (V : List Wiring) → AreHeld K V old.held → AreHeld K (V ++ drop old.wirings w.wirings) c.add_all.new.self) known
    (subst (λ (L : List Wiring). (V : List Wiring) → AreHeld c.in_ok-known.known V old.held → AreHeld c.in_ok-known.known (V ++ L) c.add_all.new.self) part c.in_ok-add_all.ensures.added) in
    let in_use = subst (λ (L : List Wiring). (V : List Wiring) → AreInUse V old.in_use → AreInUse (V ++ L) c.add_all_in_use.new.in_use) part c.in_ok-add_all_in_use.ensures.added in
    record { covers = covered_now old new w.known w.wirings c.requires.halfway refl refl (ap length items) held in_use }
