-- The search goes over the words of the problem that lists all candidates.
use Rattle.std.proofs.Common.{◌≡◌, ◌∙◌, List, ap, refl, sym, subst}
use Rattle.osgi_resolver_path.specs.Standing.{IsProblemOf, Standing}
use Rattle.osgi_resolver_theory.proofs.WorldProblems.{the_problem-is}
use Rattle.osgi_resolver_theory.specs.WorldProblems.{the_problem}
use Rattle.osgi_resolver_search.specs.Outcomes.{IsOutcome}
use Rattle.osgi_space.specs.Kept.{FollowsRows}
use Rattle.osgi_space_rows.specs.AllKnown.{AreAllKnown}
use Rattle.osgi_space_rows.specs.laws.AllKnown.{coherent-all_known}
use Rattle.osgi_world.specs.Candidates.{IsProblem}
use Rattle.osgi_world.specs.declared.problem.Problem.{Problem}
use Rattle.osgi_world.specs.declared.world.Known.{Known}
use Rattle.osgi_world.specs.declared.world.World.{World}
use Rattle.osgi_resolver.proofs.resolving.answer_over.Goals as goal

pub invariant_of-walk : goal.invariant_of-walk
invariant_of-walk c =
    subst (λ (s : Standing). IsProblem (the_problem s.world s.root)) (sym c.in_ok-path.ensures.empty)
    (the_problem-is c.args.world.now c.args.root c.requires.resolvable)

pub search-requires-clause-problem : goal.search-requires-clause-problem
search-requires-clause-problem c =
    subst (λ (s : Standing). IsProblem (the_problem s.world s.root)) (sym c.in_ok-path.ensures.empty)
    (the_problem-is c.args.world.now c.args.root c.requires.resolvable)

pub keep-requires-clause-all_known : goal.keep-requires-clause-all_known
keep-requires-clause-all_known c =
    let K = c.args.world.now.known in
    let W = c.args.world.now.wirings in
    let same : the_problem c.search.new.walker.world c.search.new.walker.root ≡ the_problem c.in_ok-path.path.world c.in_ok-path.path.root = c.in_ok-outcome.ensures.problem in
    let known : c.into_rows.result.known ≡ K
    = c.into_rows.ensures.known ∙ ap (λ (x : Standing). x.world.known) c.walk.view_is ∙ ap (λ (world : World). world.known) (ap (λ (P : Problem). P.world) same ∙ ap (λ (x : Standing). x.world) c.in_ok-path.ensures.empty) in
    subst (AreAllKnown c.into_rows.result.known) (sym c.items-wirings.ensures.items)
    (subst (λ (known : List Known). AreAllKnown known W) (sym known) (coherent-all_known K W c.requires.resolvable.consistent.coherent))

pub returns : goal.returns
returns c =
    let s : Standing = c.in_ok-path.path in
    let t : Standing = c.search.new.walker in
    let budget = c.args.budget in
    let outcome = c.in_ok-outcome.outcome in
    let at = c.in_ok-path.ensures.empty in
    let same : the_problem t.world t.root ≡ the_problem s.world s.root = c.in_ok-outcome.ensures.problem in
    let world : t.world ≡ c.args.world.now = ap (λ (P : Problem). P.world) same ∙ ap (λ (x : Standing). x.world) at in
    record {
      answer =
          let first : IsProblem (the_problem s.world s.root)
          = subst (λ (x : Standing). IsProblem (the_problem x.world x.root)) (sym at) (the_problem-is c.args.world.now c.args.root c.requires.resolvable) in
          let ended : IsOutcome (the_problem t.world t.root) budget t.word outcome = subst (λ (P : Problem). IsOutcome P budget t.word outcome) (sym same) c.in_ok-outcome.ensures.outcome in
          record {
            problem = the_problem t.world t.root;
            world = world;
            root_is = ap (λ (P : Problem). P.root) same ∙ ap (λ (x : Standing). x.root) at;
            is_problem = subst IsProblem (sym same) first;
            is = c.in_ok-answer.ensures.answer (the_problem t.world t.root) budget (subst (λ (x : Standing). IsProblemOf x (the_problem t.world t.root)) (sym c.walk.view_is) (record { world = refl; root_is = refl; is = subst IsProblem (sym same) first }))
                (subst (λ (x : Standing). IsOutcome (the_problem t.world t.root) budget x.word outcome) (sym c.walk.view_is) ended);
          };
      follows =
          subst (FollowsRows c.keep.result c.args.world.now.known) c.items-wirings.ensures.items
          (subst (λ (known : List Known). FollowsRows c.keep.result known c.items-wirings.result.now) (c.into_rows.ensures.known ∙ ap (λ (x : Standing). x.world.known) c.walk.view_is ∙ ap (λ (w : World). w.known) world) c.keep.ensures.follows);
    }
