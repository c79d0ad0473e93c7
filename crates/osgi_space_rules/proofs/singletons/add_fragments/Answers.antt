-- The next fragment, the last one and the first that is refused.
use Rattle.std.proofs.Common.{get_or}
use Rattle.osgi_base.specs.computed.Texts.{text_cmp}
use Rattle.osgi_space_rules.specs.computed.Entries.{IsEntry}
use Rattle.osgi_space_rules.specs.computed.Growing.{HasEntry}
use Rattle.osgi_space_rules.proofs.Grow.{grow_done, grow_step}
use Rattle.osgi_space_rules.proofs.Items.{no_revision, there}
use Rattle.osgi_space_rules.proofs.OneValue.{extends_all, not_true, refused_extends}
use Rattle.osgi_space_rules.proofs.singletons.add_fragments.Goals as goal

pub loop-fragment-preserved : goal.loop-fragment-preserved
loop-fragment-preserved c =
    let fragments = c.args.fragments.now in
    let i = c.loop-fragment.fragment-index in
    let within = c.loop-fragment-test.true in
    grow_step (IsEntry c.args.known.now) _ _ _ fragments i (get_or fragments i no_revision) within (there fragments i no_revision within) c.loop-fragment.invariant (c.in_ok-add_singleton.ensures.added.added c.if-not-branch.false)

pub returns-then-not-branch : goal.returns-then-not-branch
returns-then-not-branch c =
    let fragments = c.args.fragments.now in
    let i = c.loop-fragment.fragment-index in
    let within = c.loop-fragment-test.true in
    record {
      added =
          refused_extends (IsEntry c.args.known.now) (HasEntry text_cmp c.args.singletons.now) (HasEntry text_cmp c.loop-fragment.singletons) (HasEntry text_cmp c.add_singleton.new.singletons) fragments i (get_or fragments i no_revision) within (there fragments i no_revision within) c.loop-fragment.invariant
          (c.in_ok-add_singleton.ensures.added.refused (not_true c.in_ok-add_singleton.field-0 c.if-not-branch.true));
    }

pub returns : goal.returns
returns c =
    let all = grow_done (IsEntry c.args.known.now) (HasEntry text_cmp c.args.singletons.now) (HasEntry text_cmp c.loop-fragment.singletons) c.args.fragments.now c.loop-fragment.fragment-index c.loop-fragment-test.false c.loop-fragment.invariant in
    record { added = extends_all (HasEntry text_cmp c.args.singletons.now) (HasEntry text_cmp c.loop-fragment.singletons) _ all }
