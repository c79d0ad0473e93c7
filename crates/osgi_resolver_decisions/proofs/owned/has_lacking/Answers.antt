-- The next requirement, and the first without candidates.
use Rattle.std.proofs.Common.{◌≡◌, ◌<◌, ◌∙◌, false, ap, sym, subst, below_more, IsTrue, List, arith}
use Rattle.std.proofs.lemmas.Bool.{false≢true}
use Rattle.osgi_world.specs.Lookups.{is_current, requirement_count}
use Rattle.osgi_world.specs.declared.world.Known.{Known}
use Rattle.osgi_world.specs.declared.world.World.{World}
use Rattle.osgi_resolver_decisions.proofs.Lacking.{IsLackingAt, lacks-none, lacks-one, no, yes}
use Rattle.osgi_resolver_decisions.proofs.owned.has_lacking.Goals as goal

pub returns-then-not-is_current : goal.returns-then-not-is_current
returns-then-not-is_current c = record {
  lacks = λ P in_it. no (λ l.
      let owner = c.args.owner in
      let is : is_current c.args.offers.now.known owner ≡ false = sym (ap (λ (K : List Known). is_current K owner) c.known.ensures.known) ∙ sym c.is_current.ensures.current ∙ c.if-not-is_current.true in
      let here : IsTrue (is_current c.args.offers.now.known owner) = subst (λ (w : World). IsTrue (is_current w.known owner)) in_it.world l.0 in
      false≢true (sym is ∙ here));
}

pub loop-index-preserved : goal.loop-index-preserved
loop-index-preserved c =
    below_more (λ k. ¬ IsLackingAt c.args.offers.now c.args.owner c.args.lists.now k) c.loop-index.index c.loop-index.invariant
    (λ lacking. false≢true (sym c.if-is_lacking.false ∙ c.is_lacking.ensures.lacking.1 lacking))

pub returns-then-is_lacking : goal.returns-then-is_lacking
returns-then-is_lacking c = record {
  lacks = λ P in_it.
      let owner = c.args.owner in
      let current : IsTrue (is_current c.args.offers.now.known owner) = sym (ap (λ (K : List Known). is_current K owner) c.known.ensures.known) ∙ sym c.is_current.ensures.current ∙ c.if-not-is_current.false in
      let count : c.requirement_count-index-end.result ≡ requirement_count c.args.offers.now.known owner = c.requirement_count-index-end.ensures.count ∙ ap (λ (K : List Known). requirement_count K owner) c.known-2.ensures.known in
      let within : c.loop-index.index < requirement_count c.args.offers.now.known owner = subst (λ n. c.loop-index.index < n) count c.loop-index-test.true in
      yes (lacks-one c.args.offers.now owner c.args.lists.now c.requires.lists P in_it current c.loop-index.index within (c.is_lacking.ensures.lacking.0 c.if-is_lacking.true));
}

pub returns : goal.returns
returns c = record {
  lacks = λ P in_it.
      let count : c.requirement_count-index-end.result ≡ requirement_count c.args.offers.now.known c.args.owner = c.requirement_count-index-end.ensures.count ∙ ap (λ (K : List Known). requirement_count K c.args.owner) c.known-2.ensures.known in
      no (lacks-none c.args.offers.now c.args.owner c.args.lists.now c.requires.lists P in_it (λ i within. c.loop-index.invariant i (omega arith)));
}
