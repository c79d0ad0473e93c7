-- One more revision.
use Rattle.std.proofs.Common.{◌≡◌, ◌+◌, ◌++◌, ◌∷◌, [], take, ap, sym, subst, ◌∙◌}
use Rattle.std.proofs.lemmas.List.{take_more}
use Rattle.osgi_lookup.specs.computed.Index.{IsIndexOf}
use Rattle.osgi_lookup.proofs.Pushed.{index_known, index_new}
use Rattle.osgi_lookup.proofs.index.first_by_id.Goals.{then-not-contains_key+in_ok-insert, else-not-contains_key}
use Rattle.osgi_lookup.proofs.index.first_by_id.Goals as goal

pub loop-known-preserved : goal.loop-known-preserved
loop-known-preserved c =
    let known = c.known-item.result in
    let so_far = take c.loop-known.known-index c.args.all.now in
    let more : so_far ++ known ∷ [] ≡ take (c.loop-known.known-index + 1) c.args.all.now =
    ap (λ k. so_far ++ k ∷ []) c.known-item.is ∙ sym (take_more c.args.all.now c.loop-known.known-index known c.loop-known-test.true) in
    subst (IsIndexOf c.if-not-contains_key.by_id) more
    (elim c.if-not-contains_key.branch [
      | then-not-contains_key+in_ok-insert w ↦ rw w.by_id-is (index_new c.loop-known.by_id so_far _ c.loop-known.invariant w.insert.new.self (sym w.if-not-contains_key.ensures) w.in_ok-insert.ensures.updates)
      | else-not-contains_key w ↦ rw w.by_id-is (index_known c.loop-known.by_id so_far (record { ref_ptr = (0, 0); now = known }) c.loop-known.invariant (sym w.if-not-contains_key.ensures))
    ])
