-- One is amiss by itself, or has two providers.
use Rattle.osgi_space_rules.proofs.OneValue.{not_true}
use Rattle.osgi_resolver_hopeless.proofs.Answering.{yes}
use Rattle.osgi_resolver_hopeless.specs.computed.Stuck.{amiss, two_providers}
use Rattle.osgi_resolver_hopeless.proofs.stuck.has_stuck_member.Goals as goal

pub returns-then-branch : goal.returns-then-branch
returns-then-branch c = record { stuck = λ P L. let one = (c.in_ok-is_one_amiss.ensures.amiss P L).0 c.if-branch.true in yes (one.0, one.1, amiss one.2) }

pub returns : goal.returns
returns c = record {
  stuck = λ P L.
      let two = c.one_has_two_providers.ensures.two P L in (
        λ t. let one = two.0 t in (one.0, one.1, two_providers one.2),
        λ one. elim one.2 [
          | amiss a ↦ absurd (not_true _ c.if-branch.false ((c.in_ok-is_one_amiss.ensures.amiss P L).1 (one.0, one.1, a)))
          | two_providers p ↦ two.1 (one.0, one.1, p)
        ],
      );
}
