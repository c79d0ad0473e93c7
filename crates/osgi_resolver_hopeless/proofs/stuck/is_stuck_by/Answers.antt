-- It is newly amiss, or has the provider and another one.
use Rattle.osgi_space_rules.proofs.OneValue.{not_true}
use Rattle.osgi_resolver_hopeless.proofs.Answering.{yes}
use Rattle.osgi_resolver_hopeless.specs.computed.Stuck.{by_itself, by_wire}
use Rattle.osgi_resolver_hopeless.proofs.stuck.is_stuck_by.Goals as goal

pub returns-then-branch : goal.returns-then-branch
returns-then-branch c = record { stuck = λ P L is_member. yes (by_itself ((c.in_ok-is_newly_amiss.ensures.amiss P L is_member).0 c.if-branch.true)) }

pub returns : goal.returns
returns c = record {
  stuck = λ P L is_member.
      let other = c.has_two_with.ensures.other P L in (
        λ t. let some = other.0 t in by_wire some.0 some.1 some.2,
        λ s. elim s [
          | by_itself a ↦ absurd (not_true _ c.if-branch.false ((c.in_ok-is_newly_amiss.ensures.amiss P L is_member).1 a))
          | by_wire w e o ↦ other.1 (w, e, o)
        ],
      );
}
