-- One more capability, and all of them.
use Rattle.std.proofs.lemmas.Option.{slice_get_read}
use Rattle.std.proofs.Common.{◌≡◌, ◌<◌, ◌∙◌, ℕ, List, length, refl, ap, subst}
use Rattle.std.specs.Prelude.{slice_get, Some}
use Rattle.osgi_candidates.proofs.ByText.{all_texts, more_texts, no_texts}
use Rattle.osgi_candidates.proofs.Naming.{got_below}
use Rattle.osgi_world.specs.declared.capability.Capability.{Capability}
use Rattle.osgi_world.specs.declared.revision.Revision.{Revision}
use Rattle.osgi_candidates.proofs.texts.TextIndex.add.Goals as goal

pub loop-index-init : goal.loop-index-init
loop-index-init c = no_texts c.args.known.now c.args.self.now

pub loop-index-preserved : goal.loop-index-preserved
loop-index-preserved c =
    let items : c.items-capability-items.result.now ≡ c.args.known.now.revision.capabilities = c.items-capability-items.ensures.items ∙ ap (λ (v : Revision). v.capabilities) c.get-revision.ensures.value in
    let at = subst (λ (l : List Capability). slice_get l c.loop-index.index ≡ Some c.capability-item.result) items (slice_get_read c.items-capability-items.result.now (length c.items-capability-items.result.now) c.loop-index.index c.capability-item.result refl c.loop-index-test.true c.capability-item.is) in
    more_texts c.args.known.now c.args.self.now c.loop-index.self c.add_capability.new.self c.loop-index.index c.capability-item.result at c.loop-index.invariant c.in_ok-add_capability.ensures.added

pub returns : goal.returns
returns c =
    let items : c.items-capability-items.result.now ≡ c.args.known.now.revision.capabilities = c.items-capability-items.ensures.items ∙ ap (λ (v : Revision). v.capabilities) c.get-revision.ensures.value in
    record {
      added =
          all_texts c.args.known.now c.args.self.now c.loop-index.self c.loop-index.index
          (subst (λ (l : List Capability). (j : ℕ) (x : Capability) → slice_get l j ≡ Some x → j < c.loop-index.index) items (got_below c.items-capability-items.result.now c.loop-index.index c.loop-index-test.false)) c.loop-index.invariant;
    }
