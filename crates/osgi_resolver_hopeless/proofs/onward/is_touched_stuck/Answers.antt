-- The host, and who joined.
use Rattle.std.proofs.Common.{inl, inr, sym, ◌∙◌, subst}
use Rattle.osgi_space_rules.proofs.OneValue.{not_true}
use Rattle.osgi_resolver_hopeless.proofs.Answering.{no, yes}
use Rattle.osgi_resolver_hopeless.proofs.Tested.{host-at, joined-there, some-none, some-same}
use Rattle.osgi_resolver_hopeless.specs.computed.Stuck.{IsStuckBy}
use Rattle.osgi_resolver_path.specs.Standing.{made}
use Rattle.osgi_resolver_hopeless.proofs.onward.is_touched_stuck.Goals as goal

pub returns-then-branch : goal.returns-then-branch
returns-then-branch c = record {
  stuck = λ P L x.
      let is_member = host-at c.args.path.now P L c.args.last x c.host.result c.host.ensures.host in
      yes (record { member = c.host.result; is_member = is_member; touched = inl c.host.ensures.host; stuck = (c.in_ok-is_stuck_by.ensures.stuck P L is_member).0 c.if-branch.true });
}

pub returns-in_ok-is_stuck_by-in-Some : goal.returns-in_ok-is_stuck_by-in-Some
returns-in_ok-is_stuck_by-in-Some c = record {
  stuck = λ P L x.
      let D = made P c.args.path.now in
      let is_member = host-at c.args.path.now P L c.args.last x c.host.result c.host.ensures.host in
      let m = c.in-Some.member in
      let joined = joined-there c.args.path.now P L c.args.last x m c.in-Some.is in
      let is = c.in_ok-is_stuck_by-in-Some.ensures.stuck P L joined in (
        λ t. record { member = m; is_member = joined; touched = inr c.in-Some.is; stuck = is.0 t },
        λ h. elim h.touched [
          | inl e ↦ absurd (not_true _ c.if-branch.false ((c.in_ok-is_stuck_by.ensures.stuck P L is_member).1 (subst (λ r. IsStuckBy P D r c.args.last.wired) (e ∙ sym c.host.ensures.host) h.stuck)))
          | inr e ↦ is.1 (subst (λ r. IsStuckBy P D r c.args.last.wired) (some-same c.args.last.joined h.member m e c.in-Some.is) h.stuck)
        ],
      );
}

pub returns-in-None : goal.returns-in-None
returns-in-None c = record {
  stuck = λ P L x.
      let is_member = host-at c.args.path.now P L c.args.last x c.host.result c.host.ensures.host in
      no (λ h. elim h.touched [
        | inl e ↦ not_true _ c.if-branch.false ((c.in_ok-is_stuck_by.ensures.stuck P L is_member).1 (subst (λ r. IsStuckBy P (made P c.args.path.now) r c.args.last.wired) (e ∙ sym c.host.ensures.host) h.stuck))
        | inr e ↦ some-none c.args.last.joined h.member c.in-None.is e
      ]);
}
