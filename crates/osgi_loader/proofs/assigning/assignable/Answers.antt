-- The sources of both, as numbers.
use Rattle.std.proofs.Common.{◌≡◌, ◌≢◌, ◌==◌, ◌↔◌, ◌∙◌, true, false, List, ℕ, [], IsTrue, ap, refl, subst, sym}
use Rattle.std.proofs.lemmas.Bool.{eq-eqb, eqb-true}
use Rattle.osgi_base.specs.declared.ids.RevisionId.{RevisionId}
use Rattle.osgi_ops.specs.Assignable.{AreAssignable, package_of}
use Rattle.osgi_loader.proofs.Shared.{others-assignable, own-assignable}
use Rattle.osgi_loader.proofs.assigning.assignable.Goals as goal

pub returns-then-eq : goal.returns-then-eq
returns-then-eq c =
    let world = c.args.wirings.now.world in
    let r = c.args.registrant in
    let s = c.args.asker in
    let named : c.package_of-package.result.now ≡ package_of c.args.class.now = c.package_of-package.ensures.package ∙ ap package_of c.bytes.ensures.bytes in
    let one : (r.0 == s.0) ≡ true = sym c.eq.ensures ∙ c.if-eq.true in
    let own : AreAssignable world r s c.package_of-package.result.now = own-assignable world c.package_of-package.result.now r s c.in_ok-ours.ours.items c.in_ok-ours.ensures.sources (λ i. record { 0 = eqb-true r.0 s.0 one i }) in
    record { assignable = ((λ t. subst (AreAssignable world r s) named own), (λ are. refl)) }

pub returns : goal.returns
returns c =
    let world = c.args.wirings.now.world in
    let r = c.args.registrant in
    let s = c.args.asker in
    let named : c.package_of-package.result.now ≡ package_of c.args.class.now = c.package_of-package.ensures.package ∙ ap package_of c.bytes.ensures.bytes in
    let two : (r.0 == s.0) ≡ false = sym c.eq.ensures ∙ c.if-eq.false in
    let others : r ≢ s = λ same. let bad : true ≡ false = sym (eq-eqb r.0 s.0 (ap (λ (x : RevisionId). x.0) same)) ∙ two in cc bad in
    let ours = c.in_ok-ours.ours.items in
    let theirs = c.in_ok-theirs.theirs.items in
    let P : List ℕ → List ℕ → Type 0 = λ xs ys. IsTrue c.do_share.result ↔ ((xs ≢ []) × (xs ≡ ys)) in
    let share : P ours theirs = subst (λ ys. P ours ys) c.as_slice-2.ensures.value (subst (λ xs. P xs c.as_slice-2.result.now) c.as_slice.ensures.value c.do_share.ensures.share) in
    let are : IsTrue c.do_share.result ↔ AreAssignable world r s c.package_of-package.result.now =
    others-assignable world c.package_of-package.result.now r s ours c.in_ok-ours.ensures.sources theirs c.in_ok-theirs.ensures.sources c.in_ok-ours.ensures.rising c.in_ok-theirs.ensures.rising others c.do_share.result share in
    record { assignable = subst (λ p. IsTrue c.do_share.result ↔ AreAssignable world r s p) named are }
