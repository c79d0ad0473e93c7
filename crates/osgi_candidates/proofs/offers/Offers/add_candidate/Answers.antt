-- A candidate is added, and another capability is not.
use Rattle.std.proofs.Common.{subst}
use Rattle.osgi_candidates.specs.computed.Collecting.{IsOf}
use Rattle.osgi_candidates.specs.computed.Fitting.{bare}
use Rattle.osgi_candidates.proofs.Collected.{extends_none, extends_one}
use Rattle.osgi_candidates.proofs.Tested.{not_by}
use Rattle.osgi_resolver_theory.proofs.Values.{cap-eq}
use Rattle.osgi_world.specs.Candidates.{IsCandidate}
use Rattle.osgi_world.specs.declared.wiring.CapRef.{CapRef}
use Rattle.osgi_candidates.proofs.offers.Offers.add_candidate.Goals as goal

pub returns-in_ok-insert : goal.returns-in_ok-insert
returns-in_ok-insert c = record {
  added = λ fit asks.
      let x : CapRef = record { provider = c.args.provider; owner = c.args.place.owner; index = c.args.place.index } in
      let test = c.is_candidate.ensures.candidate fit asks.requirement asks.plain in
      extends_one c.args.self.now c.args.at c.args.found.now c.insert.new.self x c.in_ok-ranked.field-0 (IsOf c.args.place c.args.provider) (test.0 c.if-is_candidate.true) c.in_ok-ranked.ensures.rank
      (λ d t. cap-eq d x t.0 t.1.0 t.1.1) c.in_ok-insert.ensures.keys;
}

pub returns-else-is_candidate : goal.returns-else-is_candidate
returns-else-is_candidate c = record {
  added = λ fit asks.
      let x : CapRef = record { provider = c.args.provider; owner = c.args.place.owner; index = c.args.place.index } in
      let test = c.is_candidate.ensures.candidate fit asks.requirement asks.plain in
      extends_none c.args.self.now c.args.at c.args.found.now (IsOf c.args.place c.args.provider)
      (λ d t is. not_by c.is_candidate.result _ c.if-is_candidate.false test (subst (IsCandidate (bare c.args.self.now) c.args.at) (cap-eq d x t.0 t.1.0 t.1.1) is));
}
