-- The decision is made with what it adds, and what the lists know is enough.
use Rattle.std.proofs.Common.{◌≡◌, ◌∷◌, [], ◌++◌, Ok, Err, Some, inl, inr, flat_map, length, refl, sym, ◌∙◌, subst, arith}
use Rattle.std.proofs.lemmas.Option.{slice_get_cases}
use Rattle.std.specs.Option.{option_to_list}
use Rattle.std.specs.Prelude.{IsSome, OnErr, OnOk, Option, slice_get}
use Rattle.osgi_resolver_path.specs.computed.Moving.{IsLearnt, IsLonger, IsSpaceOf}
use Rattle.osgi_resolver_path.specs.computed.Nexts.{IsDecidedWith, IsSameCourse}
use Rattle.osgi_resolver_path.specs.computed.Steps.{steps_in}
use Rattle.osgi_world.specs.DueDecisions.{provider_of, pull_in}
use Rattle.osgi_world.specs.declared.problem.Problem.{Problem}
use Rattle.osgi_world.specs.declared.world.World.{World}
use Rattle.osgi_resolver_decisions.specs.computed.Known.{IsProblemIn}
use Rattle.osgi_resolver_decisions.specs.declared.decision_ref.DecisionRef.{DecisionRef}
use Rattle.osgi_resolver_decisions.proofs.Owners.{still-all}
use Rattle.osgi_resolver_path.proofs.Longer.{is-longer, learnt-more, learnt-still}
use Rattle.osgi_resolver_path.proofs.moving.longer.Goals as goal

pub unwrap-decision-requires : goal.unwrap-decision-requires
unwrap-decision-requires c =
    let course = c.args.course.now in
    let some : IsSome (slice_get course.queue (length course.marks.items)) = elim (slice_get_cases course.queue (length course.marks.items)).1 [
      | inl there ↦ subst (λ (o : Option DecisionRef). IsSome o) (sym there.2) refl
      | inr none ↦ absurd (omega (arith, none.0, c.requires.next))
    ] in
    subst (λ (o : Option DecisionRef). IsSome o) (sym c.next.ensures.next) some

pub decide_with-requires-clause-spaces : goal.decide_with-requires-clause-spaces
decide_with-requires-clause-spaces c = subst (λ (w : World). IsSpaceOf w c.args.course.now c.args.spaces.now) (sym c.learn_new.ensures.nothing_lost.offers) c.requires.spaces

pub returns-clause-learnt : goal.returns-clause-learnt
returns-clause-learnt c =
    let old = c.args.course.now in
    let new = c.decide_with.new.course in
    let lists = c.args.lists.now in
    let learnt = c.learn_new.new.lists in
    let then = c.decide_with.new.lists in
    let mark = c.mark_of-mark.result in
    let joining = c.joining_of-joining.result in
    let yes : IsDecidedWith learnt.offers old new mark joining → new.marks.items ≡ old.marks.items ++ mark ∷ [] → IsLearnt then new = λ by marks. learnt-more lists learnt then old new mark joining c.requires.learnt c.learn_new.ensures.nothing_lost c.in_ok-learn_new.ensures.attached c.in_ok-learn_new.ensures.joined c.decide_with.ensures.nothing_lost by.ids marks in
    let no : IsSameCourse old new → IsLearnt then new = λ same. learnt-still lists then old new c.requires.learnt (still-all lists learnt then c.learn_new.ensures.nothing_lost c.decide_with.ensures.nothing_lost) same in
    elim c.decide_with.result as (λ r. OnOk r (IsDecidedWith learnt.offers old new mark joining) → OnOk r (new.marks.items ≡ old.marks.items ++ mark ∷ []) → OnErr r (IsSameCourse old new) → IsLearnt then new) [
      | Ok x ↦ λ by marks same. yes by marks
      | Err e ↦ λ by marks same. no same
    ] c.decide_with.ensures.decided c.decide_with.ensures.marks c.decide_with.ensures.unchanged

pub returns-clause-longer : goal.returns-clause-longer
returns-clause-longer c =
    let old = c.args.course.now in
    let new = c.decide_with.new.course in
    let lists = c.args.lists.now in
    let mark = c.mark_of-mark.result in
    let joining = c.joining_of-joining.result in
    let joins = subst (λ (W : World). (P : Problem) → IsProblemIn W P → (old.ids.items ++ option_to_list joining) ≡ pull_in P old.ids.items (flat_map provider_of (steps_in mark.step))) c.offers.ensures.world c.joining_of-joining.ensures.joining in
    let there : slice_get old.queue (length old.marks.items) ≡ Some c.unwrap-decision.result = sym c.next.ensures.next ∙ c.unwrap-decision.ensures in
    elim c.decide_with.result as (λ r. OnOk r (IsDecidedWith c.learn_new.new.lists.offers old new mark joining) → OnOk r (new.marks.items ≡ old.marks.items ++ mark ∷ []) → OnOk r (c.decide_with.new.spaces ≡ record c.args.spaces.now { steps = steps_in mark.step ++ c.args.spaces.now.steps }) → OnOk r (IsLonger lists.offers old new c.args.spaces.now c.decide_with.new.spaces c.args.value)) [
      | Ok x ↦ λ by marks steps. is-longer lists c.learn_new.new.lists.offers old new c.args.spaces.now c.decide_with.new.spaces c.unwrap-decision.result c.args.value mark joining c.requires.learnt c.learn_new.ensures.nothing_lost.offers there c.mark_of-mark.ensures.mark joins steps marks by
      | Err e ↦ λ by marks steps. steps
    ] c.decide_with.ensures.decided c.decide_with.ensures.marks c.decide_with.ensures.spaces
