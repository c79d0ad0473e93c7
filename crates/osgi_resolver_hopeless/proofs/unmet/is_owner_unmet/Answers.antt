-- The next requirement, and the first that cannot be met.
use Rattle.std.proofs.Common.{inl, inr, refl, ◌≡◌, ◌<◌, ◌≤◌, ◌∙◌, ap, subst, below_more, arith}
use Rattle.osgi_resolver_theory.proofs.States.{in-payload}
use Rattle.osgi_space_rules.proofs.OneValue.{not_true}
use Rattle.osgi_resolver_hopeless.proofs.Answering.{known-is, no, yes}
use Rattle.osgi_resolver_hopeless.specs.computed.Stuck.{CannotBeMet, place}
use Rattle.osgi_resolver_path.specs.Standing.{made}
use Rattle.osgi_world.specs.Lookups.{requirement_count}
use Rattle.osgi_resolver_hopeless.proofs.unmet.is_owner_unmet.Goals as goal

pub returns-then-is_sure : goal.returns-then-is_sure
returns-then-is_sure c = record {
  unmet = λ P L is_member o. no (λ u.
      let sure = c.is_sure.ensures.sure c.if-is_sure.true P L c.args.member is_member o (place c.args.owner u.0) refl u.1 u.2.needed in
      elim u.2.no_wire [ inl none ↦ sure.some none | inr m ↦ sure.single m.0 ]);
}

pub loop-index-preserved : goal.loop-index-preserved
loop-index-preserved c = λ P L is_member o.
    let D = made P c.args.path.now in
    let i = c.loop-index.index in
    let count : c.requirement_count-count.result ≡ requirement_count P.world.known c.args.owner = c.requirement_count-count.ensures.count ∙ ap (λ K. requirement_count K c.args.owner) (known-is c.args.path.now P L c.known_at.result.now c.known_at.ensures.known) in
    let within : i < requirement_count P.world.known c.args.owner = subst (λ n. i < n) count c.loop-index-test.true in
    below_more (λ k. ¬ CannotBeMet P D c.args.member (place c.args.owner k)) i (c.loop-index.invariant P L is_member o)
    (λ u. not_true _ c.if-cannot_be_met.false ((c.cannot_be_met.ensures.unmet P L is_member (in-payload P D c.args.member (place c.args.owner i) o within)).1 u))

pub returns-then-cannot_be_met : goal.returns-then-cannot_be_met
returns-then-cannot_be_met c = record {
  unmet = λ P L is_member o.
      let D = made P c.args.path.now in
      let i = c.loop-index.index in
      let count : c.requirement_count-count.result ≡ requirement_count P.world.known c.args.owner = c.requirement_count-count.ensures.count ∙ ap (λ K. requirement_count K c.args.owner) (known-is c.args.path.now P L c.known_at.result.now c.known_at.ensures.known) in
      let within : i < requirement_count P.world.known c.args.owner = subst (λ n. i < n) count c.loop-index-test.true in
      yes (i, within, (c.cannot_be_met.ensures.unmet P L is_member (in-payload P D c.args.member (place c.args.owner i) o within)).0 c.if-cannot_be_met.true);
}

pub returns : goal.returns
returns c = record {
  unmet = λ P L is_member o.
      let i = c.loop-index.index in
      let count : c.requirement_count-count.result ≡ requirement_count P.world.known c.args.owner = c.requirement_count-count.ensures.count ∙ ap (λ K. requirement_count K c.args.owner) (known-is c.args.path.now P L c.known_at.result.now c.known_at.ensures.known) in
      let past : requirement_count P.world.known c.args.owner ≤ i = subst (λ n. n ≤ i) count c.loop-index-test.false in
      no (λ u. let below : u.0 < requirement_count P.world.known c.args.owner = u.1 in c.loop-index.invariant P L is_member o u.0 (omega arith) u.2);
}
