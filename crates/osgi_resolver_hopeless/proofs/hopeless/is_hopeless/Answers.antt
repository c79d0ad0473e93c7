-- One reason after the other; without any of them it is not hopeless.
use Rattle.osgi_space_rules.proofs.OneValue.{not_true}
use Rattle.osgi_resolver_hopeless.proofs.Answering.{yes}
use Rattle.osgi_resolver_hopeless.proofs.Reasons.{hopeless-reason, reason-hopeless}
use Rattle.osgi_resolver_hopeless.specs.computed.Reasons.{clash, lost, rivals, stuck}
use Rattle.osgi_resolver_path.specs.Standing.{made}
use Rattle.osgi_resolver_hopeless.proofs.hopeless.is_hopeless.Goals as goal

pub returns-then-branch : goal.returns-then-branch
returns-then-branch c = record { hopeless = λ P L. yes (reason-hopeless P (made P c.args.path.now) L.is (stuck ((c.in_ok-has_stuck_member.ensures.stuck P L).0 c.if-branch.true))) }

pub returns-then-branch-2 : goal.returns-then-branch-2
returns-then-branch-2 c = record { hopeless = λ P L. yes (reason-hopeless P (made P c.args.path.now) L.is (rivals ((c.in_ok-has_any_rivals.ensures.rivals P L).0 c.if-branch-2.true))) }

pub has_lost-requires : goal.has_lost-requires
has_lost-requires c = record { unsettled = c.in_ok-unsettled.ensures.unsettled }

pub has_clash-requires : goal.has_clash-requires
has_clash-requires c = record { unsettled = c.in_ok-unsettled.ensures.unsettled }

pub returns-then-has_lost : goal.returns-then-has_lost
returns-then-has_lost c = record { hopeless = λ P L. yes (reason-hopeless P (made P c.args.path.now) L.is (lost ((c.has_lost.ensures.lost P L).0 c.if-has_lost.true))) }

pub returns : goal.returns
returns c = record {
  hopeless = λ P L. (
    λ t. reason-hopeless P (made P c.args.path.now) L.is (clash ((c.in_ok-has_clash.ensures.clash P L).0 t)),
    λ h. elim (hopeless-reason P (made P c.args.path.now) L.is h) [
      | stuck s ↦ absurd (not_true _ c.if-branch.false ((c.in_ok-has_stuck_member.ensures.stuck P L).1 s))
      | rivals r ↦ absurd (not_true _ c.if-branch-2.false ((c.in_ok-has_any_rivals.ensures.rivals P L).1 r))
      | lost l ↦ absurd (not_true _ c.if-has_lost.false ((c.has_lost.ensures.lost P L).1 l))
      | clash k ↦ (c.in_ok-has_clash.ensures.clash P L).1 k
    ],
  );
}
