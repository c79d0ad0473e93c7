-- Nothing is settled by the host, a wire is lost, or a constraint clashes.
use Rattle.std.proofs.Common.{refl}
use Rattle.osgi_resolver_hopeless.proofs.Waiting.{none-settles}
use Rattle.osgi_space_rules.proofs.OneValue.{not_true}
use Rattle.osgi_resolver_hopeless.specs.computed.Onward as onward
use Rattle.osgi_resolver_hopeless.specs.computed.Reasons.{clash, lost}
use Rattle.osgi_resolver_hopeless.proofs.onward.has_settled_reason.Goals as goal

pub returns-then-reexports_open : goal.returns-then-reexports_open
returns-then-reexports_open c = record {
  reason = λ P L is_member t. let f = t in cc;
  all = λ P L is_member s h. absurd (none-settles P c.args.path.now c.args.host ((c.reexports_open.ensures.waits P L is_member).0 c.if-reexports_open.true) h);
}

pub returns-then-branch : goal.returns-then-branch
returns-then-branch c = record {
  reason = λ P L is_member t. lost (c.in_ok-has_lost_at.ensures.lost P L c.if-branch.true);
  all = λ P L is_member s h. refl;
}

pub returns : goal.returns
returns c = record {
  reason = λ P L is_member t. clash (c.in_ok-has_clash_at.ensures.clash P L is_member t);
  all = λ P L is_member s h. elim h [
    | onward.lost l ↦ absurd (not_true _ c.if-branch.false (c.in_ok-has_lost_at.ensures.all P L is_member s l))
    | onward.clash k ↦ c.in_ok-has_clash_at.ensures.all P L is_member k
  ];
}
