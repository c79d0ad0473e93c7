-- The next new revision, and the first that has a rival.
use Rattle.std.proofs.Common.{ℕ, List, sym, subst, get_or, Contains}
use Rattle.std.proofs.lemmas.List.{get_or_default}
use Rattle.osgi_space_rules.proofs.Grow.{at_in, each_done, each_step}
use Rattle.osgi_space_rules.proofs.OneValue.{not_true}
use Rattle.osgi_resolver_hopeless.proofs.Answering.{no, yes}
use Rattle.osgi_resolver_hopeless.proofs.Present.{rivals-from, rivals-of}
use Rattle.osgi_resolver_hopeless.specs.computed.Rivals.{HasRival}
use Rattle.osgi_space.proofs.Ids.{contains-in, in-contains}
use Rattle.osgi_space_rows.specs.Agree.{id}
use Rattle.osgi_resolver_hopeless.proofs.rivals.has_any_rivals.Goals as goal

pub loop-revision-init : goal.loop-revision-init
loop-revision-init c = λ n here. elim here [ ]

pub loop-revision-preserved : goal.loop-revision-preserved
loop-revision-preserved c =
    let items = c.items-revision-items.result.now in
    let value = c.items-revision-items.ensures.items in
    let i = c.loop-revision.revision-index in
    let within = c.loop-revision-test.true in
    let n = get_or items i 0 in
    each_step (λ (m : ℕ). ¬ HasRival c.args.path.now items (id m)) items i n within (get_or_default items i 0 n within) c.loop-revision.invariant
    (λ h. not_true _ c.if-has_rival.false (c.has_rival.ensures.rival.1 (subst (λ (xs : List ℕ). HasRival c.args.path.now xs (id n)) value h)))

pub returns-then-has_rival : goal.returns-then-has_rival
returns-then-has_rival c = record {
  rivals = λ P L.
      let items = c.items-revision-items.result.now in
      let value = c.items-revision-items.ensures.items in
      let i = c.loop-revision.revision-index in
      let within = c.loop-revision-test.true in
      let n = get_or items i 0 in
      let at = subst (λ (xs : List ℕ). Contains xs n) value (in-contains items n (at_in items i n within (get_or_default items i 0 n within))) in
      yes (rivals-of c.args.path.now P L c.in_ok-new.new (c.in_ok-new.ensures.new P L) n at (c.has_rival.ensures.rival.0 c.if-has_rival.true));
}

pub returns : goal.returns
returns c = record {
  rivals = λ P L.
      let items = c.items-revision-items.result.now in
      let value = c.items-revision-items.ensures.items in
      let new = c.in_ok-new.new in
      let none = each_done (λ (n : ℕ). ¬ HasRival c.args.path.now items (id n)) items c.loop-revision.revision-index c.loop-revision-test.false c.loop-revision.invariant in
      no (λ has. let r = rivals-from c.args.path.now P L new (c.in_ok-new.ensures.new P L) has in
      none r.0 (contains-in items r.0 (subst (λ (xs : List ℕ). Contains xs r.0) (sym value) r.1)) (subst (λ (xs : List ℕ). HasRival c.args.path.now xs (id r.0)) (sym value) r.2));
}
