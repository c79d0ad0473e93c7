-- Each of the list is found, and nothing else.
use Rattle.std.proofs.Common.{◌≡◌, ◌↔◌, List, refl, sym, subst, Contains}
use Rattle.std.proofs.lemmas.List.{get_or_default}
use Rattle.osgi_space_sources.specs.declared.given.Given.{Given}
use Rattle.osgi_space_sources.specs.laws.Adding.{Each, adds-from, adds-more, adds-same, adds-whole, any-in, any-of}
use Rattle.osgi_space_sources.proofs.clash.collect.Goals as goal

abbrev gives : Given → Given → Type 0
gives h g = g ≡ h

pub loop-given-preserved : goal.loop-given-preserved
loop-given-preserved c =
    let givens = c.args.givens.now in
    let at = get_or_default givens c.loop-given.given-index _ _ c.loop-given-test.true in
    adds-more gives givens c.loop-given.given-index _ c.loop-given-test.true at c.loop-given.invariant c.in_ok-add.ensures.added

each : (givens : List Given) (g : Given) → Each gives givens g ↔ Contains givens g
each givens g = (λ any. subst (Contains givens) (sym any.4) (any-in (λ (h : Given). g ≡ h) givens any), λ at. any-of (λ (h : Given). g ≡ h) givens g at refl)

pub returns : goal.returns
returns c = record {
  same =
      adds-from c.new-found.ensures.empty (adds-same (each c.args.givens.now) (adds-whole gives c.args.givens.now c.loop-given.given-index c.loop-given-test.false c.loop-given.invariant));
}
