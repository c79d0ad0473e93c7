-- Fewer than two, the next fragment, the last one and the first whose name another has.
use Rattle.std.proofs.Common.{◌≡◌, get_or, refl, subst}
use Rattle.std.specs.Prelude.{true}
use Rattle.std.specs.BTreeSet.{Updates}
use Rattle.std.proofs.lemmas.Bool.{false≢true}
use Rattle.osgi_base.specs.computed.Texts.{text_cmp}
use Rattle.osgi_base.specs.declared.ids.RevisionId.{RevisionId}
use Rattle.osgi_space_rules.proofs.Distinct.{differ_done, differ_step, fresh, no_two, seen, two_found}
use Rattle.osgi_space_rules.proofs.Exact.{inserted, text_exact, text_total}
use Rattle.osgi_space_rules.proofs.Grow.{grow_step}
use Rattle.osgi_space_rules.proofs.Items.{no_revision, there}
use Rattle.osgi_world.specs.Lookups.{symbolic_name}
use Rattle.osgi_space_rules.proofs.doubles.are_names_single.Goals as goal

pub returns-then-fragments-lt2 : goal.returns-then-fragments-lt2
returns-then-fragments-lt2 c =
    let key = symbolic_name c.args.known.now in
    record { single = (λ t. no_two (λ (e g : RevisionId). key e ≡ key g) c.args.fragments.now c.if-fragments-lt2.true, λ d. refl) }

pub loop-fragment-preserved : goal.loop-fragment-preserved
loop-fragment-preserved c =
    let key = symbolic_name c.args.known.now in
    let fragments = c.args.fragments.now in
    let i = c.loop-fragment.fragment-index in
    let within = c.loop-fragment-test.true in
    let f = get_or fragments i no_revision in
    let updates = subst (λ k. Updates text_cmp c.loop-fragment.names c.insert.new.self k true) c.in_ok-name.ensures.name c.in_ok-insert.ensures.updates in
    record {
      keys = grow_step (λ (g : RevisionId) k. k ≡ key g) _ _ _ fragments i f within (there fragments i no_revision within) c.loop-fragment.invariant.keys (inserted text_total text_exact c.loop-fragment.names c.insert.new.self _ updates);
      differ =
          differ_step (λ (e g : RevisionId). key e ≡ key g) fragments i f within (there fragments i no_revision within) c.loop-fragment.invariant.differ
          (fresh text_cmp key c.loop-fragment.names _ c.loop-fragment.invariant.keys f c.in_ok-name.name c.in_ok-name.ensures.name c.in_ok-insert.field-0 c.in_ok-insert.ensures.added c.if-not-branch.false);
    }

pub returns-then-not-branch : goal.returns-then-not-branch
returns-then-not-branch c =
    let key = symbolic_name c.args.known.now in
    let fragments = c.args.fragments.now in
    let i = c.loop-fragment.fragment-index in
    let within = c.loop-fragment-test.true in
    let f = get_or fragments i no_revision in
    let two =
    two_found (λ (e g : RevisionId). key e ≡ key g) fragments i f within (there fragments i no_revision within)
    (seen text_cmp key c.loop-fragment.names _ c.loop-fragment.invariant.keys f c.in_ok-name.name c.in_ok-name.ensures.name c.in_ok-insert.field-0 c.in_ok-insert.ensures.added c.if-not-branch.true) in
    record { single = (λ t. absurd (false≢true t), λ differ. absurd (differ two)) }

pub returns : goal.returns
returns c =
    let key = symbolic_name c.args.known.now in
    let differ = differ_done (λ (e g : RevisionId). key e ≡ key g) c.args.fragments.now c.loop-fragment.fragment-index c.loop-fragment-test.false c.loop-fragment.invariant.differ in
    record { single = (λ t. differ, λ d. refl) }
