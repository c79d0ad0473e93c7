-- With each candidate that is out the word is hopeless.
use Rattle.std.proofs.Common.{◌≡◌, ◌≤◌, ◌∙◌, Some, refl, ap, sym, subst}
use Rattle.osgi_resolver_decisions.specs.DecisionOf.{decision_of}
use Rattle.osgi_resolver_search.specs.Passing.{AreHopelessBetween}
use Rattle.osgi_world.specs.ChoiceWords.{made_by, width}
use Rattle.osgi_world.specs.Decisions.{choose}
use Rattle.osgi_world.specs.DueDecisions.{next_decision}
use Rattle.osgi_resolver_solve.specs.computed.Layers.{Place, problem_at}
use Rattle.osgi_resolver_solve.proofs.Doomed.{passed-hopeless, passed-range}
use Rattle.osgi_resolver_solve.proofs.Layers.{doomed-at}
use Rattle.osgi_resolver_solve.proofs.rows_walk.RowsWalkWalker.next_value.Goals as goal

pub returns-in-Choose : goal.returns-in-Choose
returns-in-Choose c =
    let s = c.self.inside.path in
    let rows = c.self.inside.rows in
    let P = problem_at s rows in
    let h = c.in-Choose.host in
    let q = c.in-Choose.requirement in
    let from = c.args.from in
    let k = c.next-in-Choose.result in
    let next : next_decision P (made_by P s.word) ≡ Some (choose h q) = c.in-Some.ensures.next P (record { world = refl; root_is = refl; is = c.self.invariant.problem }) ∙ ap (λ d. Some (decision_of d)) c.in-Choose.is in
    let fits : from ≤ width P (made_by P s.word) = subst (λ (p : Place). from ≤ width p.problem (made_by p.problem p.word)) (sym c.self.view_is) c.requires.from in
    record {
      range = (
        c.next-in-Choose.ensures.above,
        subst (λ (p : Place). k ≤ width p.problem (made_by p.problem p.word)) c.self.view_is (passed-range P s.word h q from k next fits c.next-in-Choose.ensures.listed),
      );
      hopeless =
          subst (λ (p : Place). AreHopelessBetween p.problem p.word from k) c.self.view_is
          (passed-hopeless P s.word h q rows.out from k next (doomed-at P s.word c.self.inside.taken.items rows.out c.self.invariant.layers) c.next-in-Choose.ensures.listed c.next-in-Choose.ensures.out);
    }
