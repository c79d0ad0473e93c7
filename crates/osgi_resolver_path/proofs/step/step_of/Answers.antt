-- What a choice adds.
use Rattle.std.proofs.Common.{◌≡◌, ◌∙◌, sym, ap, map, subst}
use Rattle.osgi_world.specs.Candidates.{candidates}
use Rattle.osgi_world.specs.Decisions.{adds, wired_to}
use Rattle.osgi_world.specs.Lists.{item_at}
use Rattle.osgi_world.specs.Lookups.{is_optional}
use Rattle.osgi_world.specs.declared.problem.Problem.{Problem}
use Rattle.osgi_resolver_decisions.specs.DecisionOf.{decision_of}
use Rattle.osgi_resolver_decisions.specs.computed.Known.{IsProblemIn}
use Rattle.osgi_resolver_path.specs.computed.Steps.{IsListed, steps_in}
use Rattle.osgi_resolver_decisions.specs.declared.decision_ref.DecisionRef.{DecisionRef}
use Rattle.osgi_resolver_path.proofs.Entries.{entry-chosen}
use Rattle.osgi_resolver_path.proofs.step.step_of.Goals as goal

pub returns-in-Choose : goal.returns-in-Choose
returns-in-Choose c = record {
  adds =
      let lists = c.args.lists.now in
      let value = c.args.value in
      let h = c.in-Choose.host in
      let q = c.in-Choose.requirement in
      let says : DecisionRef → Type 0 = λ d. (P : Problem) → IsProblemIn lists.offers P → IsListed lists P d → steps_in c.chosen.result ≡ adds P (decision_of d) value in
      subst says (sym c.in-Choose.is)
      (λ P is asked.
      c.chosen.ensures.step
      ∙ ap (λ cs. map (wired_to h q) (item_at cs value)) (c.candidates.ensures.candidates P is asked.knows asked.has)
      ∙ sym (entry-chosen h q (candidates P q) (is_optional P.world.known q) value));
}
