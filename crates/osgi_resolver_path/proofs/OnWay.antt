-- What a path's invariant says of a problem.
use Rattle.std.proofs.Common.{◌≡◌, ℕ, ◌<◌, ◌⊎◌, Bool, true, false, IsTrue, inl, inr, zero, suc, length, take, List, [], ◌∷◌, ◌++◌, map, reverse, Option, None, Some, if◌then◌else◌, refl, sym, ◌∙◌, ap, ap₂, subst, arith}
use Rattle.std.specs.Prelude.{MatchOption, is_some, not, slice_get}
use Rattle.std.proofs.lemmas.Bool.{false≢true}
use Rattle.std.proofs.lemmas.List.{length-reverse}
use Rattle.std.proofs.lemmas.Option.{slice_get_cases}
use Rattle.osgi_base.specs.declared.ids.RevisionId.{RevisionId}
use Rattle.osgi_world.specs.Candidates.{candidates}
use Rattle.osgi_world.specs.ChoiceWords.{IsComplete, width}
use Rattle.osgi_world.specs.Decisions.{Made, arity, wired_to}
use Rattle.osgi_world.specs.DueDecisions.{fragments_of, members, next_decision, payload}
use Rattle.osgi_world.specs.Lists.{In}
use Rattle.osgi_world.specs.Lookups.{is_current, is_effective, is_optional, requirement_count}
use Rattle.osgi_world.specs.Partial.{partial}
use Rattle.osgi_world.specs.declared.problem.Problem.{Problem}
use Rattle.osgi_world.specs.declared.world.Known.{Known}
use Rattle.osgi_world.specs.declared.world.World.{World}
use Rattle.osgi_world.specs.declared.wiring.CapRef.{CapRef}
use Rattle.osgi_world.specs.declared.wiring.ReqRef.{ReqRef}
use Rattle.osgi_space_rows.specs.Steps.{after_steps}
use Rattle.osgi_space_rows.specs.Worlds.{AreRowsIn, WorldLists}
use Rattle.osgi_uses.specs.States.{SpacesState, wirings_of}
use Rattle.osgi_resolver_theory.proofs.States.{in-payload}
use Rattle.osgi_resolver_decisions.specs.DecisionOf.{decision_of}
use Rattle.osgi_resolver_path.specs.Standing.{HasValue, IsProblemOf, Standing, made}
use Rattle.osgi_resolver_decisions.specs.computed.Asks.{decisions_in}
use Rattle.osgi_resolver_theory.specs.States.{State}
use Rattle.osgi_resolver_path.specs.computed.Attached.{AreAttached}
use Rattle.osgi_resolver_path.specs.computed.Courses.{CourseLists, IsAlong, IsRight, lists_of, made_of, steps_of, taken_back, word_of}
use Rattle.osgi_resolver_decisions.specs.Sure.{AreSure}
use Rattle.osgi_resolver_decisions.specs.computed.Known.{IsProblemIn, Knows}
use Rattle.osgi_resolver_path.specs.computed.Moving.{IsLearnt, IsLonger, IsOnWay}
use Rattle.osgi_resolver_path.specs.computed.Nexts.{IsSameCourse}
use Rattle.osgi_resolver_path.specs.computed.Placed.{ArePlaces}
use Rattle.osgi_resolver_path.specs.computed.Steps.{IsAsked, IsListed, steps_in}
use Rattle.osgi_resolver_path.specs.computed.Views.{IsReady}
use Rattle.osgi_resolver_path.specs.declared.course.Course.{Course}
use Rattle.osgi_resolver_path.specs.declared.course.Mark.{Mark}
use Rattle.osgi_resolver_decisions.specs.declared.decision_ref.DecisionRef.{DecisionRef}
use Rattle.osgi_resolver_decisions.specs.declared.decision_ref.DecisionRef.TheVariants.{Attach, Choose, Pick}
use Rattle.osgi_resolver_decisions.specs.declared.lists.Lists.{Lists}
use Rattle.osgi_resolver_path.proofs.Longer.{asked-of, last-mark, learnt-known, listed-next, next-of}
use Rattle.osgi_resolver_path.proofs.Fragments.{attached-rows}
use Rattle.osgi_resolver_path.proofs.Next.{next-there, right-state}
use Rattle.osgi_resolver_decisions.proofs.Owners.{same-candidates}
use Rattle.osgi_resolver_path.proofs.Placed.{placed-first}
use Rattle.osgi_resolver_path.proofs.Rows.{rows-seen}

pub along-right : (P : Problem) (F : CourseLists) (ms : List Mark) → IsAlong P F ms → IsRight P ms F
along-right P F [] a = a
along-right P F (m ∷ ms) a = a.0

-- where the path stands
abbrev pub standing_of : World → RevisionId → Course → Standing
standing_of W root c = record { world = W; root = root; word = word_of (reverse c.marks.items) }

get-none : {X Y : Type 0} (f : X → Y) (xs : List X) (n : ℕ) → slice_get xs n ≡ None → slice_get (map f xs) n ≡ None
get-none f [] n e = refl
get-none f (y ∷ ys) zero e = cc
get-none f (y ∷ ys) (suc n) e = get-none f ys n e

take-in : {X : Type 0} (n : ℕ) (xs : List X) (x : X) → In x (take n xs) → In x xs
take-in zero xs x i = elim i [ ]
take-in (suc n) [] x i = elim i [ ]
take-in (suc n) (y ∷ ys) x (inl e) = inl e
take-in (suc n) (y ∷ ys) x (inr i) = inr (take-in n ys x i)

module _ (W : World) (root : RevisionId) (lists : Lists) (spaces : SpacesState) (c : Course) (on : IsOnWay W root lists spaces c) where
  pub in-world : (P : Problem) → IsProblemOf (standing_of W root c) P → IsProblemIn W P
  in-world P of = record { world = of.world; is = of.is }

  pub in-lists : (P : Problem) → IsProblemOf (standing_of W root c) P → IsProblemIn lists.offers P
  in-lists P of = record { world = of.world ∙ sym on.offers; is = of.is }

  pub right-at : (P : Problem) → IsProblemOf (standing_of W root c) P → IsRight P (reverse c.marks.items) (lists_of c)
  right-at P of = along-right P (lists_of c) (reverse c.marks.items) (on.along P (in-world P of) of.root_is)

  pub made-is : (P : Problem) → IsProblemOf (standing_of W root c) P → made P (standing_of W root c) ≡ made_of (reverse c.marks.items)
  made-is P of = (right-at P of).is

  -- the number of values of the next decision
  pub width-some : (P : Problem) → IsProblemOf (standing_of W root c) P → (d : DecisionRef) → slice_get c.queue (length c.marks.items) ≡ Some d → width P (made P (standing_of W root c)) ≡ arity P (decision_of d)
  width-some P of d there = ap (width P) (made-is P of) ∙ ap (Rattle.osgi_world.specs.ChoiceWords.arity_of P) (next-of P of.is c (right-at P of) d there)

  pub listed-at : (P : Problem) → IsProblemOf (standing_of W root c) P → (d : DecisionRef) → slice_get c.queue (length c.marks.items) ≡ Some d → IsListed lists P d
  listed-at P of d there = listed-next P of.is lists c (right-at P of) on.learnt d there

  -- where no decision is in its place, none is left
  pub next-none : (P : Problem) → IsProblemOf (standing_of W root c) P → slice_get c.queue (length c.marks.items) ≡ None → next_decision P (made P (standing_of W root c)) ≡ None
  next-none P of there =
      ap (next_decision P) (made-is P of)
      ∙ next-there P of.is (reverse c.marks.items) (lists_of c) (right-at P of)
      ∙ ap (slice_get (decisions_in c.queue)) (length-reverse c.marks.items)
      ∙ get-none decision_of c.queue (length c.marks.items) there

  pub width-none : (P : Problem) → IsProblemOf (standing_of W root c) P → slice_get c.queue (length c.marks.items) ≡ None → width P (made P (standing_of W root c)) ≡ 0
  width-none P of there = ap (Rattle.osgi_world.specs.ChoiceWords.arity_of P) (next-none P of there)

  pub next-some : (P : Problem) → IsProblemOf (standing_of W root c) P → (d : DecisionRef) → slice_get c.queue (length c.marks.items) ≡ Some d → next_decision P (made P (standing_of W root c)) ≡ Some (decision_of d)
  next-some P of d there = ap (next_decision P) (made-is P of) ∙ next-of P of.is c (right-at P of) d there

  -- where the next decision has a value, it is in its place
  pub next-within : (v : ℕ) → HasValue (standing_of W root c) v → (d : DecisionRef) × (length c.marks.items < length c.queue) × (slice_get c.queue (length c.marks.items) ≡ Some d)
  next-within v has = elim (slice_get_cases c.queue (length c.marks.items)).1 [
    | inl there ↦ (there.0, there.1, there.2)
    | inr none ↦ let e = width-none has.problem has.of none.1 in let h = has.fits in absurd (omega (arith, e, h))
  ]

  -- it has it in any problem
  arity-of : (P Q : Problem) → IsProblemOf (standing_of W root c) P → IsProblemOf (standing_of W root c) Q → (d : DecisionRef) → IsListed lists P d → IsListed lists Q d → arity P (decision_of d) ≡ arity Q (decision_of d)
  arity-of P Q p q (Attach h f) a b = refl
  arity-of P Q p q (Choose h x) a b =
      let same : candidates P x ≡ candidates Q x = same-candidates W P Q (in-world P p) (in-world Q q) x a.has b.has in
      ap₂ (λ (cs : List CapRef) (K : List Known). length (map (λ c. wired_to h x c ∷ []) cs ++ (if is_optional K x then [] ∷ [] else []))) same (ap (λ (V : World). V.known) (p.world ∙ sym q.world))
  arity-of P Q p q (Pick h x y) a b = refl

  pub wide-at : (v : ℕ) → HasValue (standing_of W root c) v → (P : Problem) → IsProblemOf (standing_of W root c) P → v < width P (made_of (reverse c.marks.items))
  wide-at v has P of =
      let n = next-within v has in
      let here : v < arity has.problem (decision_of n.0) = subst (λ m. v < m) (width-some has.problem has.of n.0 n.2) has.fits in
      let there : v < arity P (decision_of n.0) = subst (λ m. v < m) (arity-of has.problem P has.of of n.0 (listed-at has.problem has.of n.0 n.2) (listed-at P of n.0 n.2)) here in
      subst (λ (D : Made). v < width P D) (made-is P of) (subst (λ m. v < m) (sym (width-some P of n.0 n.2)) there)

  -- the members that are opened
  pub last-within : (v : ℕ) → HasValue (standing_of W root c) v → c.last < length c.ids.items
  last-within v has = (right-at has.problem has.of).last_in

  -- one decision longer
  pub on-longer : (v : ℕ) → HasValue (standing_of W root c) v → (more : Lists) (new : Course) (t : SpacesState) → more.offers ≡ lists.offers → IsLearnt more new → ArePlaces new.places new.ids.items → IsLonger lists.offers c new spaces t v → IsOnWay W root more t new
  on-longer v has more new t offers learnt placed by =
      let ms = reverse c.marks.items in
      let marks : reverse new.marks.items ≡ by.mark ∷ ms = last-mark c.marks.items by.mark new.marks.items by.marks in
      record {
        offers = offers ∙ on.offers;
        learnt = learnt;
        placed = placed;
        spaces_are = by.steps ∙ ap (λ (s : SpacesState). record s { steps = steps_in by.mark.step ++ s.steps }) on.spaces_are ∙ ap (λ l. record { known = W.known; wirings = W.wirings; steps = steps_of l }) (sym marks);
        along = λ P in_it root-is.
            let of : IsProblemOf (standing_of W root c) P = record { world = in_it.world; root_is = root-is; is = in_it.is } in
            let before = on.along P in_it root-is in
            subst (IsAlong P (lists_of new)) (sym marks) (by.right P (in-lists P of) (right-at P of) (wide-at v has P of), subst (λ (F : CourseLists). IsAlong P F ms) (sym by.before) before);
      }

  -- nothing is changed of it
  pub on-same : (more : Lists) (new : Course) (t : SpacesState) → more.offers ≡ lists.offers → IsLearnt more new → ArePlaces new.places new.ids.items → t ≡ spaces → IsSameCourse c new → IsOnWay W root more t new
  on-same more new t offers learnt placed spaces-are same = record {
    offers = offers ∙ on.offers;
    learnt = learnt;
    placed = placed;
    spaces_are = spaces-are ∙ on.spaces_are ∙ ap (λ l. record { known = W.known; wirings = W.wirings; steps = steps_of (reverse l) }) (sym same.marks);
    along = λ P in_it root-is. subst (λ l. IsAlong P (lists_of new) (reverse l)) (sym same.marks) (subst (λ (F : CourseLists). IsAlong P F (reverse c.marks.items)) (sym same.lists) (on.along P in_it root-is));
  }

  -- one decision shorter
  pub on-shorter : (new : Course) (t : SpacesState) (m : Mark) → c.marks.items ≡ new.marks.items ++ m ∷ [] → new.places ≡ c.places → lists_of new ≡ taken_back m (lists_of c) → t ≡ record spaces { steps = steps_of (reverse new.marks.items) } → IsOnWay W root lists t new
  on-shorter new t m marks places back steps =
      let ms : reverse c.marks.items ≡ m ∷ reverse new.marks.items = last-mark new.marks.items m c.marks.items marks in
      record {
        offers = on.offers;
        learnt = record {
          members = λ r i. on.learnt.members r (take-in m.ids c.ids.items r (subst (In r) (ap (λ (F : CourseLists). F.ids) back) i));
          fragments = λ k h f i e. on.learnt.fragments k h f (subst (In k) (sym ms) (inr i)) e;
        };
        placed = subst (ArePlaces new.places) (sym (ap (λ (F : CourseLists). F.ids) back)) (placed-first new.places c.ids.items m.ids (subst (λ p. ArePlaces p c.ids.items) (sym places) on.placed));
        spaces_are = steps ∙ ap (λ (s : SpacesState). record s { steps = steps_of (reverse new.marks.items) }) on.spaces_are;
        along = λ P in_it root-is. subst (λ (F : CourseLists). IsAlong P F (reverse new.marks.items)) (sym back) (subst (IsAlong P (lists_of c)) ms (on.along P in_it root-is)).1;
      }

-- where contracts see it stand there
module _ (W : World) (root : RevisionId) (lists : Lists) (spaces : SpacesState) (c : Course) (on : IsOnWay W root lists spaces c) (s : Standing) (is : s ≡ standing_of W root c) where
  there-of : (P : Problem) → IsProblemOf s P → IsProblemOf (standing_of W root c) P
  there-of P of = subst (λ x. IsProblemOf x P) is of

  pub lists-at : (P : Problem) → IsProblemOf s P → IsProblemIn lists.offers P
  lists-at P of = in-lists W root lists spaces c on P (there-of P of)

  pub stands-at : (P : Problem) → IsProblemOf s P → IsRight P (reverse c.marks.items) (lists_of c)
  stands-at P of = right-at W root lists spaces c on P (there-of P of)

  pub made-at : (P : Problem) → IsProblemOf s P → made P s ≡ made_of (reverse c.marks.items)
  made-at P of = ap (made P) is ∙ made-is W root lists spaces c on P (there-of P of)

  pub next-listed : (P : Problem) → IsProblemOf s P → (d : DecisionRef) → Some d ≡ slice_get c.queue (length c.marks.items) → IsListed lists P d
  next-listed P of d at = listed-at W root lists spaces c on P (there-of P of) d (sym at)

  pub some-wide : (P : Problem) → IsProblemOf s P → (d : DecisionRef) → Some d ≡ slice_get c.queue (length c.marks.items) → arity P (decision_of d) ≡ width P (made P s)
  some-wide P of d at = sym (ap (λ x. width P (made P x)) is ∙ width-some W root lists spaces c on P (there-of P of) d (sym at))

  pub none-wide : (P : Problem) → IsProblemOf s P → None ≡ slice_get c.queue (length c.marks.items) → 0 ≡ width P (made P s)
  none-wide P of at = sym (ap (λ x. width P (made P x)) is ∙ width-none W root lists spaces c on P (there-of P of) (sym at))

  complete-go : (P : Problem) → IsProblemOf s P → (o : Option DecisionRef) → o ≡ slice_get c.queue (length c.marks.items) → (b : Bool) → is_some o ≡ not b → (b ≡ true → next_decision P (made P s) ≡ None) × (next_decision P (made P s) ≡ None → b ≡ true)
  complete-go P of None at true e = (λ t. ap (λ x. next_decision P (made P x)) is ∙ next-none W root lists spaces c on P (there-of P of) (sym at), λ n. refl)
  complete-go P of None at false e = absurd (false≢true e)
  complete-go P of (Some d) at true e = absurd (false≢true (sym e))
  complete-go P of (Some d) at false e =
      let some = ap (λ x. next_decision P (made P x)) is ∙ next-some W root lists spaces c on P (there-of P of) d (sym at) in
      (λ t. absurd (false≢true t), λ n. absurd (clash d (sym n ∙ some)))
    where
      clash : (x : DecisionRef) → None ≡ Some (decision_of x) → ⊥
      clash x f = cc

  pub complete-at : (P : Problem) → IsProblemOf s P → (o : Option DecisionRef) → o ≡ slice_get c.queue (length c.marks.items) → (b : Bool) → is_some o ≡ not b → (b ≡ true → IsComplete P s.word) × (IsComplete P s.word → b ≡ true)
  complete-at P of o at b e = complete-go P of o at b e

  pub next-at : (o : Option DecisionRef) → o ≡ slice_get c.queue (length c.marks.items) →
      MatchOption o ((P : Problem) → IsProblemOf s P → next_decision P (made P s) ≡ None) (λ d. (P : Problem) → IsProblemOf s P → next_decision P (made P s) ≡ Some (decision_of d))
  next-at None at = λ P of. ap (λ x. next_decision P (made P x)) is ∙ next-none W root lists spaces c on P (there-of P of) (sym at)
  next-at (Some d) at = λ P of. ap (λ x. next_decision P (made P x)) is ∙ next-some W root lists spaces c on P (there-of P of) d (sym at)

  pub members-at : (P : Problem) → IsProblemOf s P → c.ids.items ≡ members P (made P s)
  members-at P of = (stands-at P of).ids ∙ ap (members P) (sym (made-at P of))

  pub knows-at : (P : Problem) → IsProblemOf s P → (m : RevisionId) → In m (members P (made P s)) → Knows lists m
  knows-at P of m i = on.learnt.members m (subst (In m) (sym (members-at P of)) i)

  pub asked-at : (P : Problem) (m : RevisionId) (q : ReqRef) → IsProblemOf s P → In m (members P (made P s)) → In q (payload P (made P s) m) → IsTrue (is_effective P.world.known q) → IsAsked lists P q
  asked-at P m q of i j e =
      asked-of P of.is lists c (stands-at P of) on.learnt m q m (subst (λ (D : Made). In m (members P D)) (made-at P of) i) (subst (λ (D : Made). In q (payload P D m)) (made-at P of) j) e

  pub sure-at : (P : Problem) → IsProblemOf s P → (m owner : RevisionId) → In m (members P (made P s)) → (owner ≡ m) ⊎ In owner (fragments_of P (made P s) m) →
      (Knows lists owner → IsTrue (is_current P.world.known owner) → AreSure P owner) → AreSure P owner
  sure-at P of m owner i own sure q e within needed =
      let D = made P s in
      let j : In q (payload P D m) = in-payload P D m q (subst (λ o. (o ≡ m) ⊎ In o (fragments_of P D m)) (sym e) own) (subst (λ o. q.index < requirement_count P.world.known o) (sym e) within) in
      let asked = asked-at P m q of i j needed.effective in
      sure (subst (Knows lists) e asked.knows) (subst (λ o. IsTrue (is_current P.world.known o)) e asked.has.current) q e within needed

  pub ready-at : (P : Problem) → IsProblemOf s P → IsReady P lists c
  ready-at P of = record {
    in_it = lists-at P of;
    at = stands-at P of;
    learnt = on.learnt;
    known = learnt-known P lists (reverse c.marks.items) (lists_of c) (stands-at P of) on.learnt;
  }

  pub rows-at : (P : Problem) → IsProblemOf s P → (rows : WorldLists) → rows.known ≡ spaces.known → AreRowsIn rows (wirings_of spaces) → AreRowsIn rows (partial P (made P s))
  rows-at P of rows known are =
      let o = there-of P of in
      let ms = reverse c.marks.items in
      let world : P.world ≡ W = o.world in
      let first : AreRowsIn rows (after_steps W.wirings (steps_of ms)) = subst (λ (x : SpacesState). AreRowsIn rows (wirings_of x)) on.spaces_are are in
      let second : AreRowsIn rows (after_steps P.world.wirings (steps_of ms)) = subst (λ (V : World). AreRowsIn rows (after_steps V.wirings (steps_of ms))) (sym world) first in
      let known-is : rows.known ≡ P.world.known = known ∙ ap (λ (x : SpacesState). x.known) on.spaces_are ∙ ap (λ (V : World). V.known) (sym world) in
      subst (λ (D : Made). AreRowsIn rows (partial P D)) (sym (made-at P of)) (rows-seen P ms (lists_of c) (stands-at P of) rows known-is second)

  -- the rows attach the fragments of a member
  pub attached-at : (P : Problem) → IsProblemOf s P → (rows : WorldLists) → rows.known ≡ spaces.known → AreRowsIn rows (wirings_of spaces) → (m : RevisionId) → In m (members P (made P s)) → AreAttached rows.rows (made P s) m
  attached-at P of rows known are m i =
      attached-rows P of.is (made P s) (subst (State P) (sym (made-at P of)) (right-state P (reverse c.marks.items) (lists_of c) (stands-at P of))) rows (rows-at P of rows known are) m i
