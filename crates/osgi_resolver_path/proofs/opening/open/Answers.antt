-- One member more is opened.
use Rattle.std.proofs.Common.{◌≡◌, ◌+◌, ◌<◌, ◌++◌, [], append-nil, ap, sym, ◌∙◌, subst, get_or, length, List, ◌∷◌, refl, arith}
use Rattle.std.proofs.lemmas.Grind.{common_steps}
use Rattle.osgi_base.specs.declared.ids.RevisionId.{RevisionId}
use Rattle.osgi_world.specs.Lists.{In}
use Rattle.osgi_resolver_theory.proofs.States.{member-current}
use Rattle.osgi_resolver_decisions.proofs.Owners.{still-all}
use Rattle.osgi_resolver_decisions.specs.computed.Asks.{decisions_in}
use Rattle.osgi_resolver_decisions.specs.computed.Known.{IsProblemIn}
use Rattle.osgi_resolver_path.specs.computed.Openings.{IsOpened}
use Rattle.osgi_resolver_decisions.specs.declared.decision_ref.DecisionRef.{DecisionRef}
use Rattle.osgi_resolver_path.proofs.Fresh.{get-in, opened-next}
use Rattle.osgi_resolver_path.proofs.opening.open.Goals as goal

pub members-preserved : goal.members-preserved
members-preserved c =
    let ids = c.args.ids.now in
    let last = c.members.last in
    let zero : RevisionId = record { 0 = 0 } in
    let within : last + 1 < length ids = omega arith in
    let none : c.members.decisions ≡ [] = nothing-in _ (grind (arith, common_steps)) in
    record {
      kept = still-all _ _ _ c.members.invariant.kept c.in_ok-decisions.ensures.nothing_lost;
      last_in = within;
      opened = λ P D qs in_it s members-are same o.
          let before = c.members.invariant.opened P D qs in_it s members-are same o in
          let there : IsOpened P D ids qs last = subst (λ q. IsOpened P D ids q last) (ap (λ l. qs ++ decisions_in l) none ∙ append-nil qs) before in
          let now = opened-next P in_it.is D s ids qs last members-are there same zero within in
          let current = (member-current P in_it.is D s (get_or ids (last + 1) zero) (subst (λ l. In (get_or ids (last + 1) zero) l) members-are (get-in ids (last + 1) zero within))).0 in
          let is_problem : IsProblemIn c.members.lists.offers P = record { world = in_it.world ∙ sym c.members.invariant.kept.offers; is = in_it.is } in
          subst (λ q. IsOpened P D ids (qs ++ q) (last + 1)) (sym (c.in_ok-decisions.ensures.first P is_problem current)) now;
    }
  where
    nothing-in : (ds : List DecisionRef) → length ds ≡ 0 → ds ≡ []
    nothing-in [] e = refl
    nothing-in (d ∷ ds) e = absurd (omega arith)
