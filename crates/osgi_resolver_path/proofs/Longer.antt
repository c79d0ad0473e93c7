-- A course with one decision more.
use Rattle.std.proofs.Common.{◌≡◌, ℕ, ◌<◌, inl, inr, IsTrue, length, take, List, [], ◌∷◌, ◌++◌, flat_map, reverse, Option, None, Some, refl, sym, ◌∙◌, ap, subst, arith}
use Rattle.std.specs.Prelude.{slice_get}
use Rattle.std.specs.Option.{option_to_list}
use Rattle.std.proofs.lemmas.List.{length-map, length-reverse, reverse-append}
use Rattle.std.proofs.Math.Seq.{take-append_seam}
use Rattle.osgi_base.specs.declared.ids.RevisionId.{RevisionId}
use Rattle.osgi_world.specs.Candidates.{IsProblem}
use Rattle.osgi_world.specs.ChoiceWords.{decide, made_by, make, width}
use Rattle.osgi_world.specs.Decisions as spec
use Rattle.osgi_world.specs.Decisions.{Made, adds, arity, attached, attaching, choose, value_made}
use Rattle.osgi_world.specs.DueDecisions.{members, next_decision, payload, provider_of, pull_in}
use Rattle.osgi_world.specs.Lists.{In}
use Rattle.osgi_world.specs.declared.problem.Problem.{Problem}
use Rattle.osgi_world.specs.Lookups.{is_effective}
use Rattle.osgi_world.specs.declared.wiring.ReqRef.{ReqRef}
use Rattle.osgi_world.specs.declared.world.World.{World}
use Rattle.osgi_uses.specs.States.{SpacesState}
use Rattle.osgi_resolver_theory.proofs.Lists.{in-append_cases}
use Rattle.osgi_resolver_theory.proofs.States.{IsDue, attaches, chooses, fragments-in, member-current, next-due, payload-asked, payload-in, picks}
use Rattle.osgi_resolver_theory.proofs.Values.{value-cases}
use Rattle.osgi_resolver_theory.proofs.Words.{made-more, word-more}
use Rattle.osgi_resolver_decisions.specs.DecisionOf.{decision_of}
use Rattle.osgi_resolver_decisions.specs.computed.Asks.{decisions_in}
use Rattle.osgi_resolver_path.specs.computed.Courses.{AreKnown, AreSteps, CourseLists, IsRight, lists_of, made_of, taken_back, word_of}
use Rattle.osgi_resolver_decisions.specs.computed.Known.{IsProblemIn, Knows, KnowsMore}
use Rattle.osgi_resolver_path.specs.computed.Moving.{AreLearnt, IsLearnt, IsLonger, IsMarkOf}
use Rattle.osgi_resolver_path.specs.computed.Nexts.{IsDecidedWith, IsSameCourse}
use Rattle.osgi_resolver_path.specs.computed.Steps.{IsAsked, IsListed, steps_in}
use Rattle.osgi_resolver_path.specs.declared.course.Course.{Course}
use Rattle.osgi_resolver_path.specs.declared.course.Mark.{Mark}
use Rattle.osgi_resolver_decisions.specs.declared.decision_ref.DecisionRef.{DecisionRef}
use Rattle.osgi_resolver_decisions.specs.declared.decision_ref.DecisionRef.TheVariants.{Attach, Choose, Pick}
use Rattle.osgi_resolver_decisions.specs.declared.lists.Lists.{Lists}
use Rattle.osgi_resolver_path.proofs.After.{get-map}
use Rattle.osgi_resolver_path.proofs.Next.{length-made_of, next-there, right-state}

pub last-mark : (ms : List Mark) (m : Mark) (new : List Mark) → new ≡ ms ++ m ∷ [] → reverse new ≡ m ∷ reverse ms
last-mark ms m new e = ap reverse e ∙ reverse-append ms (m ∷ [])

-- the decision at its place in the queue is next
pub next-of : (P : Problem) → IsProblem P → (c : Course) → IsRight P (reverse c.marks.items) (lists_of c) → (d : DecisionRef) → slice_get c.queue (length c.marks.items) ≡ Some d → next_decision P (made_of (reverse c.marks.items)) ≡ Some (decision_of d)
next-of P L c r d there =
    next-there P L (reverse c.marks.items) (lists_of c) r
    ∙ ap (slice_get (decisions_in c.queue)) (length-reverse c.marks.items)
    ∙ get-map decision_of c.queue (length c.marks.items) d there

-- as it was before the mark
pub taken-is : (c new : Course) (mark : Mark) (joining : Option RevisionId) (offers : World) → IsDecidedWith offers c new mark joining → mark.ids ≡ length c.ids.items → mark.queue ≡ length c.queue → mark.last ≡ c.last → taken_back mark (lists_of new) ≡ lists_of c
taken-is c new mark joining offers by ids-is queue-is last-is =
    let a : take mark.ids new.ids.items ≡ c.ids.items = ap (λ n. take n new.ids.items) ids-is ∙ ap (take (length c.ids.items)) by.ids ∙ take-append_seam c.ids.items (option_to_list joining) in
    let b : take mark.queue new.queue ≡ c.queue = ap (λ n. take n new.queue) queue-is ∙ ap (take (length c.queue)) by.queue ∙ take-append_seam c.queue by.more in
    λ i. record { ids = a i; queue = b i; last = last-is i }

pub right-longer : (P : Problem) → IsProblem P → (offers : World) → IsProblemIn offers P → (c new : Course) (mark : Mark) (joining : Option RevisionId) → IsRight P (reverse c.marks.items) (lists_of c) →
    slice_get c.queue (length c.marks.items) ≡ Some mark.decision → mark.value < arity P (decision_of mark.decision) → steps_in mark.step ≡ adds P (decision_of mark.decision) mark.value →
    (c.ids.items ++ option_to_list joining) ≡ pull_in P c.ids.items (flat_map provider_of (steps_in mark.step)) → new.marks.items ≡ c.marks.items ++ mark ∷ [] → IsDecidedWith offers c new mark joining →
    IsRight P (mark ∷ reverse c.marks.items) (lists_of new)
right-longer P L offers in_it c new mark joining r there range steps joins marks by =
    let ms = reverse c.marks.items in
    let D = made_of ms in
    let d = decision_of mark.decision in
    let next = next-of P L c r mark.decision there in
    let wide : mark.value < width P (made_by P (word_of ms)) = subst (λ (E : Made). mark.value < width P E) (sym r.is) (subst (λ o. mark.value < Rattle.osgi_world.specs.ChoiceWords.arity_of P o) (sym next) range) in
    let ids-are : new.ids.items ≡ members P ((d, mark.value) ∷ D)
    = by.ids ∙ joins ∙ ap (λ s. pull_in P c.ids.items (flat_map provider_of s)) steps ∙ ap (λ l. pull_in P l (flat_map provider_of (adds P d mark.value))) r.ids in
    let o = by.opened P in_it r there range ids-are in
    let count : length ms ≡ length c.marks.items = length-reverse c.marks.items in
    let total : length D ≡ length ms = length-made_of ms in
    record {
      word = word-more P (word_of ms) mark.value r.word wide;
      is = made-more P (word_of ms) mark.value ∙ ap (λ (E : Made). decide P E mark.value) r.is ∙ ap (λ x. make x D mark.value) next;
      steps = (steps, r.steps);
      ids = ids-are;
      queue = o.0.queue_is;
      done = let h = o.0.done in omega (arith, h, total);
      within = let h = o.0.within in let e = length-map new.queue decision_of in omega (arith, h, e, total);
      last_in = o.0.last_in;
      pending = elim o.1 [ inl a ↦ inl (omega (arith, a, count)) | inr b ↦ inr b ];
    }

-- ---- what the lists know

made-mark : (ms : List Mark) (d : spec.Decision) (v : ℕ) → value_made (made_of ms) d ≡ Some v → (m : Mark) × In m ms × (d ≡ decision_of m.decision) × (v ≡ m.value)
made-mark [] d v e = cc
made-mark (m ∷ ms) d v e = elim (value-cases (made_of ms) (decision_of m.decision) m.value d v e) [
  | inl same ↦ (m, inl refl, same.0, same.1)
  | inr old ↦ let r = made-mark ms d v old in (r.0, inr r.1, r.2, r.3)
]

steps-at : (P : Problem) (ms : List Mark) → AreSteps P ms → (m : Mark) → In m ms → steps_in m.step ≡ adds P (decision_of m.decision) m.value
steps-at P [] a m i = elim i [ ]
steps-at P (n ∷ ms) a m (inl e) = subst (λ (k : Mark). steps_in k.step ≡ adds P (decision_of k.decision) k.value) (sym e) a.0
steps-at P (n ∷ ms) a m (inr i) = steps-at P ms a.1 m i

-- they know the candidates of each requirement of a member's payload
pub learnt-known : (P : Problem) (lists : Lists) (ms : List Mark) (F : CourseLists) → IsRight P ms F → AreLearnt lists F.ids ms → AreKnown P lists (made_of ms) F.ids
learnt-known P lists ms F r learnt m q i j = elim (payload-in P (made_of ms) m q j).0 [
  | inl own ↦ subst (Knows lists) (sym own) (learnt.members m i)
  | inr f ↦
      let g = fragments-in P (made_of ms) m q.owner f in
      let k = made-mark ms (attaching m q.owner) 0 g.1 in
      learnt.fragments k.0 m q.owner k.1 (steps-at P ms r.steps k.0 k.1 ∙ ap (λ d. adds P d k.0.value) (sym k.2) ∙ ap (λ v. adds P (attaching m q.owner) v) (sym k.3))
]

module _ (P : Problem) (L : IsProblem P) (lists : Lists) (c : Course) (r : IsRight P (reverse c.marks.items) (lists_of c)) (learnt : IsLearnt lists c) where
  pub asked-of : (h : RevisionId) (q : ReqRef) (m : RevisionId) → In m (members P (made_of (reverse c.marks.items))) → In q (payload P (made_of (reverse c.marks.items)) m) → IsTrue (is_effective P.world.known q) → IsAsked lists P q
  asked-of h q m i j e = record {
    knows = learnt-known P lists (reverse c.marks.items) (lists_of c) r learnt m q (subst (In m) (sym r.ids) i) j;
    has = payload-asked P L (made_of (reverse c.marks.items)) m q (member-current P L (made_of (reverse c.marks.items)) (right-state P (reverse c.marks.items) (lists_of c) r) m i).0 j e;
  }

  choice-asked : (h : RevisionId) (q : ReqRef) (m : RevisionId) → In m (members P (made_of (reverse c.marks.items))) → IsDue P (made_of (reverse c.marks.items)) m (choose h q) → IsAsked lists P q
  choice-asked h q m i (attaches f j e) = cc
  choice-asked h q m i (chooses p j eff all one e) = let same : p ≡ q = cc in subst (IsAsked lists P) same (asked-of h p m i j eff)
  choice-asked h q m i (picks p x j eff all one k e) = cc

  pub listed-next : (d : DecisionRef) → slice_get c.queue (length c.marks.items) ≡ Some d → IsListed lists P d
  listed-next (Attach h f) there = tt
  listed-next (Choose h q) there =
      let due-is = next-due P (made_of (reverse c.marks.items)) (choose h q) (next-of P L c r (Choose h q) there) in
      choice-asked h q due-is.0 due-is.1 due-is.2
  listed-next (Pick h q x) there = tt

-- ---- and what they know with one decision more

pub learnt-more : (known learnt new : Lists) (c d : Course) (mark : Mark) (joining : Option RevisionId) → IsLearnt known c → KnowsMore known learnt → ((h f : RevisionId) → steps_in mark.step ≡ attached h f ∷ [] → Knows learnt f) → ((r : RevisionId) → joining ≡ Some r → Knows learnt r) →
    KnowsMore learnt new → d.ids.items ≡ c.ids.items ++ option_to_list joining → d.marks.items ≡ c.marks.items ++ mark ∷ [] → IsLearnt new d
learnt-more known learnt new c d mark joining old kept fragment joins more ids marks = record {
  members = λ m i. elim (in-append_cases c.ids.items (option_to_list joining) m (subst (In m) ids i)) [
    | inl a ↦ more.owners m (kept.owners m (old.members m a))
    | inr b ↦ more.owners m (joins m (joined-is joining m b))
  ];
  fragments = λ k h f i e. elim (subst (In k) (last-mark c.marks.items mark d.marks.items marks) i) [
    | inl a ↦ more.owners f (fragment h f (subst (λ (x : Mark). steps_in x.step ≡ attached h f ∷ []) a e))
    | inr b ↦ more.owners f (kept.owners f (old.fragments k h f b e))
  ];
}
  where
    joined-is : (o : Option RevisionId) (m : RevisionId) → In m (option_to_list o) → o ≡ Some m
    joined-is None m i = elim i [ ]
    joined-is (Some x) m (inl e) = ap Some (sym e)
    joined-is (Some x) m (inr i) = elim i [ ]

pub learnt-still : (known new : Lists) (c d : Course) → IsLearnt known c → KnowsMore known new → IsSameCourse c d → IsLearnt new d
learnt-still known new c d old kept same = record {
  members = λ m i. kept.owners m (old.members m (subst (In m) (ap (λ (F : CourseLists). F.ids) same.lists) i));
  fragments = λ k h f i e. kept.owners f (old.fragments k h f (subst (λ ms. In k (reverse ms)) same.marks i) e);
}

-- ---- longer

pub is-longer : (lists : Lists) (offers : World) (c new : Course) (s t : SpacesState) (decision : DecisionRef) (value : ℕ) (mark : Mark) (joining : Option RevisionId) → IsLearnt lists c → offers ≡ lists.offers →
    slice_get c.queue (length c.marks.items) ≡ Some decision → IsMarkOf lists c decision value mark →
    ((P : Problem) → IsProblemIn lists.offers P → (c.ids.items ++ option_to_list joining) ≡ pull_in P c.ids.items (flat_map provider_of (steps_in mark.step))) →
    t ≡ record s { steps = steps_in mark.step ++ s.steps } → new.marks.items ≡ c.marks.items ++ mark ∷ [] → IsDecidedWith offers c new mark joining →
    IsLonger lists.offers c new s t value
is-longer lists offers c new s t decision value mark joining learnt same there m joins steps marks by = record {
  mark = mark;
  value_is = m.value_is;
  marks = marks;
  steps = steps;
  before = taken-is c new mark joining offers by m.ids m.queue m.last;
  right = λ P in_it r wide.
      let here : slice_get c.queue (length c.marks.items) ≡ Some mark.decision = there ∙ ap Some (sym m.decision_is) in
      let next = next-of P in_it.is c r mark.decision here in
      let range : value < arity P (decision_of mark.decision) = subst (λ o. value < Rattle.osgi_world.specs.ChoiceWords.arity_of P o) next wide in
      let adds-it : steps_in mark.step ≡ adds P (decision_of mark.decision) mark.value
      = m.step P in_it (listed-next P in_it.is lists c r learnt decision there) ∙ ap (λ d. adds P (decision_of d) value) (sym m.decision_is) ∙ ap (adds P (decision_of mark.decision)) (sym m.value_is) in
      let in-offers : IsProblemIn offers P = record { world = in_it.world ∙ sym same; is = in_it.is } in
      right-longer P in_it.is offers in-offers c new mark joining r here (subst (λ v. v < arity P (decision_of mark.decision)) (sym m.value_is) range) adds-it (joins P in_it) marks by;
}
