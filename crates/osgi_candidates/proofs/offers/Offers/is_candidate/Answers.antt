-- A test that fails, and the last one.
use Rattle.osgi_candidates.proofs.Tested.{candidate_is, never, not_by}
use Rattle.osgi_candidates.proofs.offers.Offers.is_candidate.Goals as goal

pub returns-then-not-meets : goal.returns-then-not-meets
returns-then-not-meets c = record {
  candidate = λ fit is plain.
      let all = candidate_is c.args.self.now c.args.at c.args.requirement.now c.args.capability is plain in
      never _ (λ x. not_by c.meets.result _ c.if-not-meets.true c.meets.ensures.meets (all.1 x).0);
}

pub returns-then-not-may_provide : goal.returns-then-not-may_provide
returns-then-not-may_provide c = record {
  candidate = λ fit is plain.
      let all = candidate_is c.args.self.now c.args.at c.args.requirement.now c.args.capability is plain in
      never _ (λ x. not_by c.may_provide.result _ c.if-not-may_provide.true c.may_provide.ensures.may (all.1 x).1.0);
}

pub returns : goal.returns
returns c = record {
  candidate = λ fit is plain.
      let all = candidate_is c.args.self.now c.args.at c.args.requirement.now c.args.capability is plain in
      let stands = c.stands.ensures.stands fit in (
        λ t. all.0 (c.meets.ensures.meets.0 c.if-not-meets.false, (c.may_provide.ensures.may.0 c.if-not-may_provide.false, stands.0 t)),
        λ x. stands.1 (all.1 x).1.1,
      );
}
