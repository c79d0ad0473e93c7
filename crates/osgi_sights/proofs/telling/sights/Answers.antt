-- One more happening is told, until none is left.
use Rattle.std.proofs.Common.{◌+◌, ◌<◌, ◌≤◌, arith, length, map, refl, subst, sym, List}
use Rattle.std.proofs.Math.ListN.{drop_of_length-le}
use Rattle.std.proofs.lemmas.List.{length-map}
use Rattle.osgi_listeners.specs.Rows.{AreInOrder}
use Rattle.osgi_listeners.specs.Sights.{sights_of}
use Rattle.osgi_sights.specs.Shown.{Shown, shown}
use Rattle.osgi_sights.specs.Sights.{AreSightsOf}
use Rattle.osgi_sights.proofs.Onward.{all_happened, one_happened}
use Rattle.osgi_sights.proofs.Told.{all_sights, places_below}
use Rattle.osgi_sights.proofs.telling.sights.Goals as goal

pub loop-place-preserved : goal.loop-place-preserved
loop-place-preserved c =
    let l = c.args.listeners.now in
    let world = c.args.wirings.now.world in
    let before = sights_of c.loop-place.told.items in
    let after = sights_of c.tell.new.told.items in
    let item = c.index-items-place.result in
    record {
      told = one_happened l c.args.removed world c.items-items.result.now c.loop-place.place (c.loop-place.place + 1) item before after refl c.loop-place-test.true c.index-items-place.is c.loop-place.invariant.told c.in_ok-tell.ensures.told;
      in_order = λ some. c.tell.ensures.in_order;
    }

pub returns : goal.returns
returns c =
    let l = c.args.listeners.now in
    let world = c.args.wirings.now.world in
    let happened = map shown c.items-items.result.now in
    let told = sights_of c.loop-place.told.items in
    let past : length happened ≤ c.loop-place.place = subst (λ n. n ≤ c.loop-place.place) (sym (length-map c.items-items.result.now shown)) c.loop-place-test.false in
    let few : length happened ≤ 4294967296 = subst (λ n. n ≤ 4294967296) (sym (length-map c.items-items.result.now shown)) c.items-items.ensures.few in
    let ordered : 0 < length happened → AreInOrder l = λ some. c.loop-place.invariant.in_order (omega (arith, some, past)) in
    let seen = all_sights l c.args.removed world happened told ordered (all_happened l c.args.removed world happened c.loop-place.place told c.loop-place.invariant.told (drop_of_length-le happened past)) in
    record {
      sights = subst (λ (shown : List Shown). AreSightsOf l c.args.removed world shown told) c.items-items.ensures.shown seen;
      small = places_below l c.args.removed world happened told 4294967296 few seen;
    }
