-- No decision is made, the last one gives a reason at once, its host is not decided, or what settles with it decides.
use Rattle.std.proofs.Common.{inl, inr, sym, subst}
use Rattle.osgi_space_rules.proofs.OneValue.{not_true}
use Rattle.osgi_resolver_hopeless.proofs.Answering.{no, yes}
use Rattle.osgi_resolver_hopeless.proofs.Latest.{state-now}
use Rattle.osgi_resolver_hopeless.proofs.Reasons.{reason-hopeless}
use Rattle.osgi_resolver_hopeless.proofs.Tested.{host-at, tested}
use Rattle.osgi_resolver_hopeless.specs.computed.Onward.{HasSettledReason}
use Rattle.osgi_resolver_path.specs.Standing.{made}
use Rattle.osgi_world.specs.Hopeless.{IsDecided}
use Rattle.osgi_resolver_hopeless.proofs.onward.has_become_hopeless.Goals as goal

pub returns-in_default : goal.returns-in_default
returns-in_default c = record { hopeless = λ P L hopeful. c.in_ok-is_hopeless.ensures.hopeless P L }

pub returns-then-branch : goal.returns-then-branch
returns-then-branch c = record {
  hopeless = λ P L hopeful. yes (reason-hopeless P (made P c.args.path.now) L.is (c.in_ok-is_at_once.ensures.reason P L (c.in-Some.ensures.last P L) c.if-branch.true));
}

pub returns-then-not-is_decided : goal.returns-then-not-is_decided
returns-then-not-is_decided c = record {
  hopeless = λ P L hopeful.
      let x = c.in-Some.ensures.last P L in
      let is_member = host-at c.args.path.now P L c.in-Some.last x c.host-host.result c.host-host.ensures.host in
      no (λ h. elim (tested c.args.path.now P L c.in-Some.last x hopeful h) [
        | inl a ↦ not_true _ c.if-branch.false (c.in_ok-is_at_once.ensures.all P L x a)
        | inr b ↦ not_true _ c.if-not-is_decided.true ((c.is_decided.ensures.decided P L is_member).1 (subst (IsDecided P (made P c.args.path.now)) (sym c.host-host.ensures.host) b.1))
      ]);
}

pub returns : goal.returns
returns c = record {
  hopeless = λ P L hopeful.
      let x = c.in-Some.ensures.last P L in
      let is_member = host-at c.args.path.now P L c.in-Some.last x c.host-host.result c.host-host.ensures.host in (
        λ t. reason-hopeless P (made P c.args.path.now) L.is (c.in_ok-has_settled_reason.ensures.reason P L is_member t),
        λ h. elim (tested c.args.path.now P L c.in-Some.last x hopeful h) [
          | inl a ↦ absurd (not_true _ c.if-branch.false (c.in_ok-is_at_once.ensures.all P L x a))
          | inr b ↦ c.in_ok-has_settled_reason.ensures.all P L is_member (state-now c.args.path.now P L c.in-Some.last x) (subst (HasSettledReason P c.args.path.now) (sym c.host-host.ensures.host) b.0)
        ],
      );
}
