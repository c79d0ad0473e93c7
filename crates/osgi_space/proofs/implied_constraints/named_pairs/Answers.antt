-- One constraint more in the set.
use Rattle.std.proofs.Common.{◌≡◌, ◌↔◌, inl, inr, List, get_or, sym, ◌∙◌, subst, Any, IsTrue}
use Rattle.std.proofs.lemmas.List.{get_or_default, take_all}
use Rattle.std.specs.BTreeSet.{contains}
use Rattle.osgi_space_sources.specs.declared.given.Given.{Given}
use Rattle.osgi_space_sources.specs.laws.Adding.{any-more}
use Rattle.osgi_space_sources.specs.laws.Sets.{set_put}
use Rattle.osgi_space.specs.ImpliedOrder.{implied_cmp}
use Rattle.osgi_space.specs.computed.NamedPairs.{named_pair}
use Rattle.osgi_space.proofs.ImpliedNames.{exact_implied}
use Rattle.osgi_space.proofs.implied_constraints.named_pairs.Goals as goal

pub loop-pair-preserved : goal.loop-pair-preserved
loop-pair-preserved c = λ v.
    let pairs = c.args.pairs.now in
    let i = c.loop-pair.pair-index in
    let h = c.loop-pair-test.true in
    let names = c.args.names.now in
    let pair : Given = get_or pairs i (record { «package» = 0; source = 0 }) in
    let at : pair ≡ get_or pairs i pair = get_or_default pairs i _ pair h in
    let put = set_put implied_cmp exact_implied c.loop-pair.set c.insert.new.self c.in_ok-named.field-0 c.in_ok-insert.ensures.updates v in
    let more = any-more (λ (g : Given). named_pair names g ≡ v) pairs i pair h at in
    let before = c.loop-pair.invariant v in (
      λ t. more.1 (elim (put.0 t) [ inl old ↦ inl (before.0 old) | inr e ↦ inr (sym c.in_ok-named.ensures.implied ∙ e) ]),
      λ any. put.1 (elim (more.0 any) [ inl old ↦ inl (before.1 old) | inr e ↦ inr (c.in_ok-named.ensures.implied ∙ e) ]),
    )

pub returns : goal.returns
returns c = record {
  pairs = λ v. subst (λ (xs : List Given). IsTrue (contains implied_cmp c.loop-pair.set v) ↔ Any (λ (g : Given). named_pair c.args.names.now g ≡ v) xs) (take_all c.loop-pair.pair-index c.args.pairs.now c.loop-pair-test.false) (c.loop-pair.invariant v);
}
