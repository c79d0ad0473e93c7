-- The next requirement, and all of them.
use Rattle.std.proofs.Common.{◌≡◌, ◌<◌, ◌∙◌, refl, ap, sym, subst, below_more, arith}
use Rattle.osgi_world.specs.Lookups.{IsNeeded, requirement_count}
use Rattle.osgi_world.specs.declared.wiring.ReqRef.{ReqRef}
use Rattle.osgi_resolver_decisions.specs.computed.Sureness.{IsSureBy, list_at}
use Rattle.osgi_resolver_decisions.proofs.owned.are_sure.Goals as goal

pub loop-index-preserved : goal.loop-index-preserved
loop-index-preserved c = λ q e h needed.
    let K = c.args.offers.now.known in
    let lists = c.args.lists.now in
    let owner = c.args.owner in
    let i = c.loop-index.index in
    below_more (λ k. (q : ReqRef) → q.owner ≡ owner → q.index ≡ k → IsNeeded K q → IsSureBy K (list_at lists q.index) q) i
    (λ k less q e same needed. c.loop-index.invariant q e (subst (λ n. n < i) (sym same) less) needed)
    (λ q e same needed.
    let here : q ≡ record { owner = owner; index = i } = λ j. record { owner = e j; index = same j } in
    let at = c.is_sure.ensures.sure c.if-not-is_sure.false (subst (IsNeeded K) here needed) in
    subst (λ (r : ReqRef). IsSureBy K (list_at lists r.index) r) (sym here) at)
    q.index h q e refl needed

pub returns : goal.returns
returns c = record {
  sure = λ t q e h needed.
      let count : c.requirement_count-index-end.result ≡ requirement_count c.args.offers.now.known c.args.owner = c.requirement_count-index-end.ensures.count ∙ ap (λ K. requirement_count K c.args.owner) c.known.ensures.known in
      let within : q.index < c.requirement_count-index-end.result = subst (λ n. q.index < n) (sym count) h in
      c.loop-index.invariant q e (omega (arith, within, c.loop-index-test.false)) needed;
}
