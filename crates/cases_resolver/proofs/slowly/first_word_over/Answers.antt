-- The slow search goes over the words of the problem that lists all candidates.
use Rattle.std.proofs.Common.{◌≡◌, ◌∙◌, ℕ, Ok, Err, ap, sym, subst}
use Rattle.std.specs.Prelude.{IfOk}
use Rattle.osgi_resolver_path.specs.Standing.{Standing}
use Rattle.osgi_resolver_theory.proofs.WorldProblems.{the_problem-is}
use Rattle.osgi_resolver_theory.specs.WorldProblems.{the_problem}
use Rattle.osgi_resolver_search.specs.Outcomes.{IsOutcome}
use Rattle.osgi_world.specs.Candidates.{IsProblem}
use Rattle.osgi_world.specs.declared.problem.Problem.{Problem}
use Rattle.cases_resolver.specs.FirstWords.{IsFirstWord}
use Rattle.cases_resolver.proofs.slowly.first_word_over.Goals as goal

pub invariant_of-walk : goal.invariant_of-walk
invariant_of-walk c =
    subst (λ (s : Standing). IsProblem (the_problem s.world s.root)) (sym c.in_ok-path.ensures.empty)
    (the_problem-is c.args.world.now c.args.root c.requires.resolvable)

pub search_all_words-requires-clause-problem : goal.search_all_words-requires-clause-problem
search_all_words-requires-clause-problem c =
    subst (λ (s : Standing). IsProblem (the_problem s.world s.root)) (sym c.in_ok-path.ensures.empty)
    (the_problem-is c.args.world.now c.args.root c.requires.resolvable)

pub returns : goal.returns
returns c =
    let s : Standing = c.in_ok-path.path in
    let t : Standing = c.search_all_words.new.walker in
    let budget = c.args.budget in
    let outcome = c.in_ok-outcome.outcome in
    let same : the_problem t.world t.root ≡ the_problem s.world s.root = c.in_ok-outcome.ensures.problem in
    let here : the_problem s.world s.root ≡ the_problem c.args.world.now c.args.root = ap (λ (x : Standing). the_problem x.world x.root) c.in_ok-path.ensures.empty in
    let ended : IsOutcome (the_problem t.world t.root) budget t.word outcome = subst (λ (P : Problem). IsOutcome P budget t.word outcome) (sym same) c.in_ok-outcome.ensures.outcome in
    record {
      first =
          subst (λ (P : Problem). IfOk c.first_of.result (IsFirstWord P budget)) (same ∙ here)
          (elim c.first_of.result as (λ r.
          IfOk r (λ first. (n : ℕ) → IsOutcome (the_problem t.world t.root) n t.word outcome → IsFirstWord (the_problem t.world t.root) n first) → IfOk r (IsFirstWord (the_problem t.world t.root) budget)) [
            | Ok first ↦ λ is. is budget ended
            | Err e ↦ λ x. x
          ] c.first_of.ensures.first);
    }
