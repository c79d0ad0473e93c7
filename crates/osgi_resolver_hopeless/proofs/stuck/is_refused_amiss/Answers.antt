-- By the value; and where the decision is not on the last candidate, a wire is left.
use Rattle.osgi_space_rules.proofs.OneValue.{not_true}
use Rattle.osgi_resolver_hopeless.proofs.Answering.{no}
use Rattle.osgi_resolver_hopeless.proofs.Picks.{last-pick}
use Rattle.osgi_resolver_hopeless.proofs.stuck.is_refused_amiss.Goals as goal

pub returns-then-last-ne1 : goal.returns-then-last-ne1
returns-then-last-ne1 c = record { amiss = λ P L is_member d x is i. no (λ a. c.if-last-ne1.true a.0) }

pub returns-then-not-is_on_last : goal.returns-then-not-is_on_last
returns-then-not-is_on_last c = record {
  amiss = λ P L is_member d x is i. no (λ a.
      let end = last-pick c.args.path.now P L c.args.last x c.args.member c.args.requirement d is a.2 in
      not_true _ c.if-not-is_on_last.true ((c.is_on_last.ensures.last P L is_member i a.2.needed.effective).1 (end.0, d, end.1, is)));
}

pub returns : goal.returns
returns c = record {
  amiss = λ P L is_member d x is i.
      let by = c.cannot_be_met.ensures.unmet P L is_member i in (
        λ t. (c.if-last-ne1.false, i, by.0 t),
        λ a. by.1 a.2,
      );
}
