-- One more capability, and all of them.
use Rattle.std.proofs.lemmas.Option.{slice_get_read}
use Rattle.std.proofs.Common.{◌≡◌, ◌<◌, ℕ, List, length, refl, ap, subst, ◌∙◌}
use Rattle.std.specs.Prelude.{slice_get, Some}
use Rattle.osgi_base.specs.computed.Texts.{text_cmp}
use Rattle.osgi_candidates.proofs.Naming.{capabilities_all, capability_more, none_added, got_below}
use Rattle.osgi_candidates.specs.computed.Names.{place_at}
use Rattle.osgi_space_rows.specs.computed.Groups.{Adds}
use Rattle.osgi_world.specs.declared.capability.Capability.{Capability}
use Rattle.osgi_world.specs.declared.revision.Revision.{Revision}
use Rattle.osgi_candidates.proofs.names.add_capabilities.Goals as goal

pub loop-index-init : goal.loop-index-init
loop-index-init c = none_added c.args.known.now c.args.capabilities.now

pub loop-index-preserved : goal.loop-index-preserved
loop-index-preserved c =
    let items : c.items-capability-items.result.now ≡ c.args.known.now.revision.capabilities = c.items-capability-items.ensures.items ∙ ap (λ (v : Revision). v.capabilities) c.get-revision.ensures.value in
    let at = subst (λ (l : List Capability). slice_get l c.loop-index.index ≡ Some c.capability-item.result) items (slice_get_read c.items-capability-items.result.now (length c.items-capability-items.result.now) c.loop-index.index c.capability-item.result refl c.loop-index-test.true c.capability-item.is) in
    let adds = subst (λ n. Adds text_cmp c.loop-index.capabilities c.push.new.self n (place_at c.args.known.now.id c.loop-index.index)) c.in_ok-copy.ensures.same c.in_ok-push.ensures.added in
    capability_more c.args.known.now c.args.capabilities.now c.loop-index.capabilities c.push.new.self c.loop-index.index c.capability-item.result at adds c.loop-index.invariant

pub returns : goal.returns
returns c =
    let items : c.items-capability-items.result.now ≡ c.args.known.now.revision.capabilities = c.items-capability-items.ensures.items ∙ ap (λ (v : Revision). v.capabilities) c.get-revision.ensures.value in
    record {
      added =
          capabilities_all c.args.known.now c.args.capabilities.now c.loop-index.capabilities c.loop-index.index
          (subst (λ (l : List Capability). (j : ℕ) (x : Capability) → slice_get l j ≡ Some x → j < c.loop-index.index) items (got_below c.items-capability-items.result.now c.loop-index.index c.loop-index-test.false)) c.loop-index.invariant;
    }
