-- One revision more.
use Rattle.std.proofs.Common.{◌≡◌, ◌⊎◌, ℕ, inl, inr, Any, List, [], get_or, sym, subst}
use Rattle.std.proofs.lemmas.List.{get_or_default, take_all}
use Rattle.osgi_space_rules.proofs.Grow.{at_in, in_more}
use Rattle.osgi_space_sources.specs.computed.Clashes.{IsClash}
use Rattle.osgi_world.specs.Lists.{In}
use Rattle.osgi_resolver_hopeless.proofs.concerned.clashing.Goals as goal

pub loop-revision-init : goal.loop-revision-init
loop-revision-init c = record { those = λ n i. none-there _ c.new-list.ensures.items n i; all = λ n none either. elim none [ ] }
  where
    none-there : {Q : Type 0} (xs : List ℕ) → xs ≡ [] → (n : ℕ) → In n xs → Q
    none-there xs e n i = let f : In n [] = subst (In n) e i in elim f [ ]

pub loop-revision-preserved : goal.loop-revision-preserved
loop-revision-preserved c =
    let revisions = c.args.revisions.now in
    let k = c.loop-revision.revision-index in
    let within = c.loop-revision-test.true in
    let m = get_or revisions k 0 in
    let at = get_or_default revisions k 0 m within in
    record {
      those = λ n i. elim (c.in_ok-add_touched.ensures.those n i) [
        | inl old ↦ c.loop-revision.invariant.those n old
        | inr e ↦ subst (λ (x : ℕ). In x revisions) (sym e) (at_in revisions k m within at)
      ];
      all = λ n there either. elim ((in_more revisions k m within at n).0 there) [
        | inl old ↦ c.in_ok-add_touched.ensures.kept n (c.loop-revision.invariant.all n old either)
        | inr e ↦ subst (λ (x : ℕ). In x c.add_touched.new.list.items) (sym e) (c.in_ok-add_touched.ensures.added (c.in_ok-touched.ensures.touched (subst (λ (x : ℕ). (x ≡ c.args.host) ⊎ Any (IsClash c.args.rows.now x) c.args.pairs.now) e either)))
      ];
    }

pub returns : goal.returns
returns c = record {
  those = c.loop-revision.invariant.those;
  all = λ n there either. c.loop-revision.invariant.all n (subst (In n) (sym (take_all c.loop-revision.revision-index c.args.revisions.now c.loop-revision-test.false)) there) either;
}
