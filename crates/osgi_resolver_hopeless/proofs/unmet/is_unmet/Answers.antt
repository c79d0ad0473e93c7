-- The next fragment, and the first with a requirement that cannot be met.
use Rattle.std.proofs.Common.{inl, inr, refl, sym, subst, get_or}
use Rattle.osgi_base.specs.declared.ids.RevisionId.{RevisionId}
use Rattle.osgi_space_rules.proofs.Grow.{at_in, each_done, each_step}
use Rattle.osgi_space_rules.proofs.Items.{no_revision, there}
use Rattle.osgi_space_rules.proofs.OneValue.{not_true}
use Rattle.osgi_resolver_hopeless.proofs.Answering.{no, yes}
use Rattle.osgi_resolver_hopeless.proofs.Owners.{owner-of, unmet-of}
use Rattle.osgi_resolver_hopeless.specs.computed.Stuck.{OwnUnmet}
use Rattle.osgi_resolver_path.specs.Standing.{made}
use Rattle.osgi_world.specs.Lists.{In}
use Rattle.osgi_resolver_hopeless.proofs.unmet.is_unmet.Goals as goal

pub returns-then-is_owner_unmet : goal.returns-then-is_owner_unmet
returns-then-is_owner_unmet c = record {
  unmet = λ P L is_member f.
      let D = made P c.args.path.now in
      yes (unmet-of P D c.args.member c.args.member (inl refl) ((c.is_owner_unmet.ensures.unmet P L is_member (inl refl)).0 c.if-is_owner_unmet.true));
}

pub loop-fragment-init : goal.loop-fragment-init
loop-fragment-init c = λ P L is_member f fragment here. elim here [ ]

pub loop-fragment-preserved : goal.loop-fragment-preserved
loop-fragment-preserved c = λ P L is_member f.
    let D = made P c.args.path.now in
    let fragments = c.args.fragments.now in
    let i = c.loop-fragment.fragment-index in
    let within = c.loop-fragment-test.true in
    let fragment = get_or fragments i no_revision in
    let at = there fragments i no_revision within in
    each_step (λ (o : RevisionId). ¬ OwnUnmet P D c.args.member o) fragments i fragment within at (c.loop-fragment.invariant P L is_member f)
    (λ u. not_true _ c.if-is_owner_unmet-2.false ((c.is_owner_unmet-in-loop-fragment.ensures.unmet P L is_member (inr (subst (In fragment) f (at_in fragments i fragment within at)))).1 u))

pub returns-then-is_owner_unmet-2 : goal.returns-then-is_owner_unmet-2
returns-then-is_owner_unmet-2 c = record {
  unmet = λ P L is_member f.
      let D = made P c.args.path.now in
      let fragments = c.args.fragments.now in
      let i = c.loop-fragment.fragment-index in
      let within = c.loop-fragment-test.true in
      let fragment = get_or fragments i no_revision in
      let at = there fragments i no_revision within in
      let owner = inr (subst (In fragment) f (at_in fragments i fragment within at)) in
      yes (unmet-of P D c.args.member fragment owner ((c.is_owner_unmet-in-loop-fragment.ensures.unmet P L is_member owner).0 c.if-is_owner_unmet-2.true));
}

pub returns : goal.returns
returns c = record {
  unmet = λ P L is_member f.
      let D = made P c.args.path.now in
      let fragments = c.args.fragments.now in
      let none = each_done (λ (o : RevisionId). ¬ OwnUnmet P D c.args.member o) fragments c.loop-fragment.fragment-index c.loop-fragment-test.false (c.loop-fragment.invariant P L is_member f) in
      no (λ u. let o = owner-of P D c.args.member u in elim o.1 [
        | inl e ↦ not_true _ c.if-is_owner_unmet.false ((c.is_owner_unmet.ensures.unmet P L is_member (inl refl)).1 (subst (OwnUnmet P D c.args.member) e o.2))
        | inr i ↦ none o.0 (subst (In o.0) (sym f) i) o.2
      ]);
}
