-- Nothing can be lost, or one of the wires of members is.
use Rattle.osgi_space_rules.proofs.OneValue.{not_true}
use Rattle.osgi_resolver_hopeless.proofs.offer.has_lost_at.Goals as goal

pub returns-then-not-branch : goal.returns-then-not-branch
returns-then-not-branch c = record {
  lost = λ P L t. let f = t in cc;
  all = λ P L is_member s lost. absurd (not_true _ c.if-not-branch.true (c.in_ok-may_lose.ensures.all P L is_member s lost));
}

pub returns : goal.returns
returns c = record {
  lost = λ P L. c.in_ok-is_one_lost_at.ensures.lost P L (c.marks.ensures.wires P L);
  all = λ P L is_member s. c.in_ok-is_one_lost_at.ensures.all P L (c.marks.ensures.wires P L);
}
