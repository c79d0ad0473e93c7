-- One more row.
use Rattle.std.proofs.Common.{◌≡◌, ◌+◌, ◌++◌, ◌∷◌, [], length, take, ap, sym, subst, ◌∙◌, arith}
use Rattle.std.specs.Prelude.{Some}
use Rattle.std.specs.BTreeMap.{Updates}
use Rattle.std.proofs.lemmas.List.{length-take-le, take_more}
use Rattle.osgi_base.specs.computed.Texts.{text_cmp}
use Rattle.osgi_bundle.specs.computed.Places.{AreFirstPlaces}
use Rattle.osgi_bundle.proofs.Indices.{nothing}
use Rattle.osgi_bundle.proofs.Numbers.{places_known, places_new}
use Rattle.osgi_bundle.proofs.indexed_depot.first_places.Goals.{then-not-contains_key+in_ok-copy+in_ok-insert, else-not-contains_key}
use Rattle.osgi_bundle.proofs.indexed_depot.first_places.Goals as goal

pub loop-row-preserved : goal.loop-row-preserved
loop-row-preserved c =
    let row = c.row-item.result in
    let so_far = take c.loop-row.row-index c.args.rows.now in
    let more : so_far ++ row ∷ [] ≡ take (c.loop-row.row-index + 1) c.args.rows.now =
    ap (λ r. so_far ++ r ∷ []) c.row-item.is ∙ sym (take_more c.args.rows.now c.loop-row.row-index row c.loop-row-test.true) in
    let number : c.loop-row.number ≡ length so_far = c.loop-row.invariant.1 ∙ sym (length-take-le c.loop-row.row-index c.args.rows.now (omega (arith, c.loop-row-test.true))) in
    let next : c.loop-row.number + 1 ≡ c.loop-row.row-index + 1 = ap (λ n. n + 1) c.loop-row.invariant.1 in
    elim c.if-not-contains_key.branch [
      | then-not-contains_key+in_ok-copy+in_ok-insert w ↦ (
        let updates = subst (λ key. Updates text_cmp c.loop-row.places w.insert.new.self key (Some c.loop-row.number)) w.in_ok-copy.ensures.same w.in_ok-insert.ensures.updates in
            let counted = subst (λ n. Updates text_cmp c.loop-row.places w.insert.new.self row.location (Some n)) number updates in
            let are = places_new c.loop-row.places so_far row c.loop-row.invariant.0 w.insert.new.self (nothing _ (sym w.if-not-contains_key.ensures)) counted in
            subst (λ places. AreFirstPlaces places (take (c.loop-row.row-index + 1) c.args.rows.now)) (sym w.places-is) (subst (AreFirstPlaces w.insert.new.self) more are),
        next,
      )
      | else-not-contains_key w ↦ (
        let are = places_known c.loop-row.places so_far row c.loop-row.invariant.0 (sym w.if-not-contains_key.ensures) in
            subst (λ places. AreFirstPlaces places (take (c.loop-row.row-index + 1) c.args.rows.now)) (sym w.places-is) (subst (AreFirstPlaces c.loop-row.places) more are),
        next,
      )
    ]
