-- By the last decision, or where there is none by all.
use Rattle.std.proofs.Common.{◌≡◌, ℕ, List, inl, inr, [], ap}
use Rattle.osgi_space_rules.proofs.OneValue.{not_true}
use Rattle.osgi_resolver_hopeless.proofs.Answering.{yes}
use Rattle.osgi_resolver_hopeless.proofs.Newly.{last-newly, none-newly}
use Rattle.osgi_resolver_hopeless.proofs.Tested.{made-is}
use Rattle.osgi_resolver_path.specs.Standing.{made}
use Rattle.osgi_resolver_decisions.specs.DecisionOf.{decision_of}
use Rattle.osgi_world.specs.ChoiceWords.{made_by}
use Rattle.std.proofs.Common.{refl}
use Rattle.osgi_resolver_hopeless.proofs.stuck.is_newly_amiss.Goals as goal

pub returns-in_default : goal.returns-in_default
returns-in_default c = record {
  amiss = λ P L is_member.
      let s = c.args.path.now in
      let none : made P s ≡ [] = ap (λ (w : List ℕ). made_by P w) c.in_default.ensures.last in
      let newly = none-newly P (made P s) c.args.member none in
      let amiss = c.in_ok-is_amiss.ensures.amiss P L is_member in
      (λ t. newly.0 (amiss.0 t), λ a. amiss.1 (newly.1 a));
}

pub returns-then-lacks_candidate : goal.returns-then-lacks_candidate
returns-then-lacks_candidate c = record {
  amiss = λ P L is_member.
      let s = c.args.path.now in
      let last = c.in-Some.last in
      let x = c.in-Some.ensures.last P L in
      let newly = last-newly P (made P s) (made_by P x.before) (decision_of last.decision) last.value c.args.member (made-is s P L last x) in
      yes (newly.0 (inl ((c.lacks_candidate.ensures.lacks P L c.args.member is_member (inl refl)).0 c.if-lacks_candidate.true)));
}

pub returns : goal.returns
returns c = record {
  amiss = λ P L is_member.
      let s = c.args.path.now in
      let last = c.in-Some.last in
      let x = c.in-Some.ensures.last P L in
      let newly = last-newly P (made P s) (made_by P x.before) (decision_of last.decision) last.value c.args.member (made-is s P L last x) in
      let by = c.is_amiss_by.ensures.amiss P L is_member x in (
        λ t. newly.0 (inr (by.0 t)),
        λ a. elim (newly.1 a) [
          | inl l ↦ absurd (not_true _ c.if-lacks_candidate.false ((c.lacks_candidate.ensures.lacks P L c.args.member is_member (inl refl)).1 l))
          | inr b ↦ by.1 b
        ],
      );
}
