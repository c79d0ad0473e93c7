-- One reason after the other.
use Rattle.std.proofs.Common.{refl}
use Rattle.osgi_space_rules.proofs.OneValue.{not_true}
use Rattle.osgi_resolver_hopeless.proofs.Tested.{by-stuck, made-holder, made-wire}
use Rattle.osgi_resolver_hopeless.specs.computed.Onward as onward
use Rattle.osgi_resolver_hopeless.specs.computed.Reasons.{lost, rivals, stuck}
use Rattle.osgi_resolver_path.specs.Standing.{made}
use Rattle.osgi_resolver_hopeless.proofs.onward.is_at_once.Goals as goal

pub returns-then-branch : goal.returns-then-branch
returns-then-branch c = record {
  reason = λ P L x t. let s = (c.in_ok-is_touched_stuck.ensures.stuck P L x).0 c.if-branch.true in stuck (s.member, s.is_member, by-stuck P (made P c.args.path.now) s.member c.args.last.wired (made-wire c.args.path.now P L c.args.last x) s.stuck);
  all = λ P L x h. refl;
}

pub returns-then-branch-2 : goal.returns-then-branch-2
returns-then-branch-2 c = record {
  reason = λ P L x t. rivals (c.in_ok-has_new_rivals.ensures.rivals P L c.if-branch-2.true);
  all = λ P L x h. refl;
}

pub returns : goal.returns
returns c = record {
  reason = λ P L x t.
      let l = (c.in_ok-is_new_lost.ensures.lost P L (made-wire c.args.path.now P L c.args.last x)).0 t in
      lost (record {
        member = l.0.revision;
        wire = l.0.wire;
        is_member = made-holder c.args.path.now P L c.args.last x l.0 l.1;
        has = made-wire c.args.path.now P L c.args.last x l.0 l.1;
        settled = l.2.0;
        lost = l.2.1;
      });
  all = λ P L x h. elim h [
    | onward.stuck s ↦ absurd (not_true _ c.if-branch.false ((c.in_ok-is_touched_stuck.ensures.stuck P L x).1 s))
    | onward.rivals r ↦ absurd (not_true _ c.if-branch-2.false (c.in_ok-has_new_rivals.ensures.all P L r))
    | onward.lost l ↦ (c.in_ok-is_new_lost.ensures.lost P L (made-wire c.args.path.now P L c.args.last x)).1 l
  ];
}
