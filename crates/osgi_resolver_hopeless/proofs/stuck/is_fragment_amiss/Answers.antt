-- One reason after the other.
use Rattle.std.proofs.Common.{inl, inr}
use Rattle.osgi_space_rules.proofs.OneValue.{not_true}
use Rattle.osgi_resolver_hopeless.proofs.Answering.{yes}
use Rattle.osgi_resolver_hopeless.proofs.stuck.is_fragment_amiss.Goals as goal

pub returns-then-lacks_candidate : goal.returns-then-lacks_candidate
returns-then-lacks_candidate c = record { amiss = λ P L is_member i. yes (inl ((c.lacks_candidate.ensures.lacks P L c.args.member is_member (inr i)).0 c.if-lacks_candidate.true)) }

pub returns : goal.returns
returns c = record {
  amiss = λ P L is_member i.
      let namesake = c.has_namesake.ensures.namesake P L is_member i in (
        λ t. inr (namesake.0 t),
        λ a. elim a [
          | inl l ↦ absurd (not_true _ c.if-lacks_candidate.false ((c.lacks_candidate.ensures.lacks P L c.args.member is_member (inr i)).1 l))
          | inr h ↦ namesake.1 h
        ],
      );
}
