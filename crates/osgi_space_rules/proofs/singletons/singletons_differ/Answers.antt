-- The next wiring, the last one and the first that is refused.
use Rattle.std.proofs.Common.{refl}
use Rattle.std.proofs.lemmas.Bool.{false≢true}
use Rattle.osgi_base.specs.computed.Texts.{text_cmp}
use Rattle.osgi_space_rules.specs.computed.Entries.{IsEntryOf}
use Rattle.osgi_space_rules.specs.computed.Growing.{HasEntry, Nothing}
use Rattle.osgi_space_rules.proofs.Grow.{grow_done, grow_step}
use Rattle.osgi_space_rules.proofs.OneValue.{not_true, refused_at}
use Rattle.osgi_space_rules.proofs.Rivals.{entries_clash, entries_differ}
use Rattle.osgi_space_rules.proofs.singletons.singletons_differ.Goals as goal

pub loop-wiring-preserved : goal.loop-wiring-preserved
loop-wiring-preserved c =
    grow_step (IsEntryOf c.args.known.now) _ _ _ c.args.wirings.now c.loop-wiring.wiring-index c.wiring-item.result c.loop-wiring-test.true c.wiring-item.is c.loop-wiring.invariant
    (c.in_ok-add_payload.ensures.added.added c.if-not-branch.false)

pub returns-then-not-branch : goal.returns-then-not-branch
returns-then-not-branch c =
    let clash =
    entries_clash c.args.known.now c.args.wirings.now
    (refused_at (IsEntryOf c.args.known.now) Nothing (HasEntry text_cmp c.loop-wiring.singletons) c.args.wirings.now c.loop-wiring.wiring-index c.wiring-item.result c.loop-wiring-test.true c.wiring-item.is c.loop-wiring.invariant
    (c.in_ok-add_payload.ensures.added.refused (not_true c.in_ok-add_payload.field-0 c.if-not-branch.true))) in
    record { differ = (λ t. absurd (false≢true t), λ differ. absurd (clash differ)) }

pub returns : goal.returns
returns c =
    let differ =
    entries_differ c.args.known.now c.args.wirings.now c.loop-wiring.singletons
    (grow_done (IsEntryOf c.args.known.now) Nothing (HasEntry text_cmp c.loop-wiring.singletons) c.args.wirings.now c.loop-wiring.wiring-index c.loop-wiring-test.false c.loop-wiring.invariant) in
    record { differ = (λ t. differ, λ d. refl) }
