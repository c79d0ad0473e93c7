-- Which members are decided: those before the last that is opened, this one where the next decision is not of space, and those after it that
-- have nothing of space to decide.
use Rattle.std.proofs.Common.{◌≡◌, ℕ, ◌+◌, ◌<◌, ◌≤◌, ◌⊎◌, ◌↔◌, get_or, inl, inr, zero, suc, add-one, Bool, true, false, ◌&&◌, IsTrue, List, [], ◌∷◌, ◌++◌, flat_map, take, drop, length, Some, None, refl, sym, ◌∙◌, ap, subst, arith}
use Rattle.std.specs.Prelude.{not, slice_get}
use Rattle.std.specs.Bool.{Decides}
use Rattle.std.specs.List.{list_any}
use Rattle.std.proofs.lemmas.List.{length-map}
use Rattle.osgi_base.specs.declared.ids.RevisionId.{RevisionId}
use Rattle.osgi_world.specs.Candidates.{IsProblem, candidates, matching}
use Rattle.osgi_world.specs.Decisions.{Decision, IsMade, Made, attaching, choose, pick, value_made}
use Rattle.osgi_world.specs.DueDecisions.{due_decisions, members, payload}
use Rattle.osgi_world.specs.Hopeless.{IsDecided, IsSpatial}
use Rattle.osgi_world.specs.Lists.{In}
use Rattle.osgi_world.specs.Lookups.{is_effective, is_multiple, requirement_namespace}
use Rattle.osgi_world.specs.Payloads.{own_requirements}
use Rattle.osgi_world.specs.declared.problem.Problem.{Problem}
use Rattle.osgi_world.specs.declared.wiring.CapRef.{CapRef}
use Rattle.osgi_world.specs.declared.wiring.ReqRef.{ReqRef}
use Rattle.osgi_resolver_theory.proofs.Lists.{and-cases, any-in, flat_map-in, in-any, in-append_cases, in-append_left, in-append_right, in-flat_map}
use Rattle.osgi_resolver_theory.proofs.Queue.{in_order-made, queued}
use Rattle.osgi_resolver_theory.proofs.States.{AllAttached, IsDue, attaches, chooses, due-in, fragments-in, in-due_attach, in-due_choose, in-due_pick, in-own, in-payload, member-new, own-in, payload-in, picks}
use Rattle.osgi_resolver_theory.proofs.Values.{some-inj}
use Rattle.osgi_resolver_theory.specs.Queue.{in_order}
use Rattle.osgi_resolver_path.proofs.Grown.{cut, one-more}
use Rattle.osgi_resolver_path.proofs.Next.{get-append_at, length-in_order, length-made_of, queue-parts, right-state}
use Rattle.osgi_resolver_path.proofs.Turns.{InTurn, due-turn, first-turn, later-turn, next-passes, passes}
use Rattle.osgi_resolver_decisions.specs.DecisionOf.{decision_of}
use Rattle.osgi_resolver_decisions.specs.computed.Asks.{decisions_in}
use Rattle.osgi_resolver_path.specs.computed.Courses.{CourseLists, IsRight, made_of}
use Rattle.osgi_resolver_decisions.specs.computed.Free.{asks_space, is_free, is_lone, is_none_of, is_of_space}
use Rattle.osgi_resolver_path.specs.computed.Views.{is_spatial, is_spatial_next}
use Rattle.osgi_resolver_path.specs.declared.course.Mark.{Mark}

-- ---- places

pub get-in : {X : Type 0} (xs : List X) (n : ℕ) (x : X) → slice_get xs n ≡ Some x → In x xs
get-in [] n x e = cc
get-in (y ∷ ys) zero x e = inl (sym (some-inj y x e))
get-in (y ∷ ys) (suc n) x e = inr (get-in ys n x e)

get-take : {X : Type 0} (xs : List X) (n k : ℕ) (x : X) → slice_get xs n ≡ Some x → n < k → In x (take k xs)
get-take [] n k x e h = cc
get-take (y ∷ ys) n zero x e h = absurd (omega arith)
get-take (y ∷ ys) zero (suc k) x e h = inl (sym (some-inj y x e))
get-take (y ∷ ys) (suc n) (suc k) x e h = inr (get-take ys n k x e (omega arith))

get-drop : {X : Type 0} (xs : List X) (n k : ℕ) (x : X) → slice_get xs n ≡ Some x → k ≤ n → In x (drop k xs)
get-drop xs n zero x e h = get-in xs n x e
get-drop [] n (suc k) x e h = cc
get-drop (y ∷ ys) zero (suc k) x e h = absurd (omega arith)
get-drop (y ∷ ys) (suc n) (suc k) x e h = get-drop ys n k x e (omega arith)

take-suc-cases : {X : Type 0} (xs : List X) (n : ℕ) (m x : X) → slice_get xs n ≡ Some m → In x (take (suc n) xs) → In x (take n xs) ⊎ (x ≡ m)
take-suc-cases [] n m x e i = cc
take-suc-cases (y ∷ ys) zero m x e (inl s) = inr (s ∙ some-inj y m e)
take-suc-cases (y ∷ ys) zero m x e (inr i) = elim i [ ]
take-suc-cases (y ∷ ys) (suc n) m x e (inl s) = inl (inl s)
take-suc-cases (y ∷ ys) (suc n) m x e (inr i) = later (take-suc-cases ys n m x e i)
  where
    later : In x (take n ys) ⊎ (x ≡ m) → In x (take (suc n) (y ∷ ys)) ⊎ (x ≡ m)
    later (inl j) = inl (inr j)
    later (inr s) = inr s

pub get-some : {X : Type 0} (xs : List X) (n : ℕ) (x : X) → n < length xs → slice_get xs n ≡ Some (get_or xs n x)
get-some [] n x h = absurd (omega arith)
get-some (y ∷ ys) zero x h = refl
get-some (y ∷ ys) (suc n) x h = get-some ys n x (omega arith)

take-less : {X : Type 0} (xs : List X) (n : ℕ) (x : X) → In x (take n xs) → In x (take (suc n) xs)
take-less [] zero x i = i
take-less [] (suc n) x i = i
take-less (y ∷ ys) zero x i = elim i [ ]
take-less (y ∷ ys) (suc n) x (inl e) = inl e
take-less (y ∷ ys) (suc n) x (inr i) = inr (take-less ys n x i)

-- the next one, of which the list says y, has what is asked
pub more-kept : {X Y : Type 0} (of : Y → X) (T : X → Type 0) (xs : List X) (list : List Y) (n : ℕ) (m : X) (y : Y) → of y ≡ m → ((x : Y) → of x ≡ m → x ≡ y) → slice_get xs n ≡ Some m →
    ((x : Y) → In x list ↔ In (of x) (take n xs) × T (of x)) → T m → (x : Y) → In x (list ++ y ∷ []) ↔ In (of x) (take (n + 1) xs) × T (of x)
more-kept of T xs list n m y is back there so has x = rw (add-one n) (
  λ i. elim (in-append_cases list (y ∷ []) x i) [
    | inl a ↦ let b = (so x).0 a in (take-less xs n (of x) b.0, b.1)
    | inr (inl e) ↦ let same : of x ≡ m = ap of e ∙ is in (subst (λ z. In z (take (suc n) xs)) (sym same) (get-take xs n (suc n) m there (omega arith)), subst T (sym same) has)
    | inr (inr i) ↦ elim i [ ]
  ],
  λ h. elim (take-suc-cases xs n m (of x) there h.0) [
    | inl a ↦ in-append_left list (y ∷ []) x ((so x).1 (a, h.1))
    | inr e ↦ in-append_right list (y ∷ []) x (inl (back x e))
  ],
)

-- it has not
pub more-left : {X Y : Type 0} (of : Y → X) (T : X → Type 0) (xs : List X) (list : List Y) (n : ℕ) (m : X) → slice_get xs n ≡ Some m →
    ((x : Y) → In x list ↔ In (of x) (take n xs) × T (of x)) → (T m → ⊥) → (x : Y) → In x list ↔ In (of x) (take (n + 1) xs) × T (of x)
more-left of T xs list n m there so none x = rw (add-one n) (
  λ i. let b = (so x).0 i in (take-less xs n (of x) b.0, b.1),
  λ h. elim (take-suc-cases xs n m (of x) there h.0) [
    | inl a ↦ (so x).1 (a, h.1)
    | inr e ↦ absurd (none (subst T e h.1))
  ],
)

-- ---- the queue

-- what is left of the queue, and what comes later, is open
record IsParted (P : Problem) (D : Made) (F : CourseLists) : Type 0 where
  left : List Decision
  queue_is : decisions_in F.queue ≡ in_order D ++ left
  left_open : (d : Decision) → In d left → value_made D d ≡ None
  later_open : (d : Decision) → In d (flat_map (due_decisions P D) (drop (F.last + 1) F.ids)) → value_made D d ≡ None

parted : (P : Problem) → IsProblem P → (ms : List Mark) (F : CourseLists) → IsRight P ms F → IsParted P (made_of ms) F
parted P L ms F r =
    let D = made_of ms in
    let q = queued P L D (right-state P ms F r) in
    let others = flat_map (due_decisions P D) (drop (F.last + 1) F.ids) in
    let whole : (in_order D ++ q.rest) ≡ (decisions_in F.queue ++ others) = sym q.is ∙ queue-parts P D F.ids (F.last + 1) r.ids ∙ ap (λ l. l ++ others) (sym r.queue) in
    let c = cut (in_order D) q.rest (decisions_in F.queue) others whole (let a = length-in_order D in let b = length-made_of ms in let e = length-map F.queue decision_of in let h = r.within in omega (arith, a, b, e, h)) in
    record {
      left = c.0;
      queue_is = c.1;
      left_open = λ d i. q.open_rest d (subst (In d) (sym c.2) (in-append_left c.0 others d i));
      later_open = λ d i. q.open_rest d (subst (In d) (sym c.2) (in-append_right c.0 others d i));
    }

-- the decisions of the members before the last are made
earlier-made : (P : Problem) → IsProblem P → (ms : List Mark) (F : CourseLists) → IsRight P ms F → (m : RevisionId) (d : Decision) → In m (take F.last F.ids) → In d (due_decisions P (made_of ms) m) → IsMade (made_of ms) d
earlier-made P L ms F r m d i j =
    let D = made_of ms in
    let q = queued P L D (right-state P ms F r) in
    let before = flat_map (due_decisions P D) (take F.last F.ids) in
    let after = flat_map (due_decisions P D) (drop F.last F.ids) in
    let whole : (before ++ after) ≡ (in_order D ++ q.rest) = sym (queue-parts P D F.ids F.last r.ids) ∙ q.is in
    let c = cut before after (in_order D) q.rest whole (let a = length-in_order D in let b = length-made_of ms in let h = r.done in omega (arith, a, b, h)) in
    in_order-made D d (subst (In d) (sym c.1) (in-append_left before c.0 d (in-flat_map (due_decisions P D) (take F.last F.ids) m d i j)))

no-made : (D : Made) (d : Decision) → value_made D d ≡ None → IsMade D d → ⊥
no-made D d n m = let e = m.1 in cc

no-false : (b : Bool) → not b ≡ true → IsTrue b → ⊥
no-false true e t = cc
no-false false e t = cc

not-true : (b : Bool) → (IsTrue b → ⊥) → not b ≡ true
not-true true f = absurd (f refl)
not-true false f = refl

spatial-true : (P : Problem) (d : Decision) → IsSpatial P d → IsTrue (is_spatial P.world.known d)
spatial-true P (attaching h f) s = refl
spatial-true P (choose h q) s = s
spatial-true P (pick h q c) s = s

true-spatial : (P : Problem) (d : Decision) → IsTrue (is_spatial P.world.known d) → IsSpatial P d
true-spatial P (attaching h f) s = tt
true-spatial P (choose h q) s = s
true-spatial P (pick h q c) s = s

-- a member's own decisions of space are made, where it is decided
decided-own : (P : Problem) → IsProblem P → (D : Made) (m : RevisionId) → In m (members P D) → IsDecided P D m → (d : Decision) → In d (due_decisions P D m) → IsSpatial P d → IsMade D d
decided-own P L D m i (inl old) d j s = absurd (member-new P L.root_is.not_in_force D m i old)
decided-own P L D m i (inr own) d j s = own.1 d j s

module _ (P : Problem) (L : IsProblem P) (ms : List Mark) (F : CourseLists) (r : IsRight P ms F) (place : ℕ) (m : RevisionId) (stands : slice_get F.ids place ≡ Some m) where
  member : In m (members P (made_of ms))
  member = subst (In m) r.ids (get-in F.ids place m stands)

  pub decided-before : place < F.last → IsDecided P (made_of ms) m
  decided-before h = inr (member, λ d i s. earlier-made P L ms F r m d (get-take F.ids place F.last m stands h) i)

  last-left : (p : IsParted P (made_of ms) F) → place ≡ F.last → (d : Decision) → In d p.left → In d (due_decisions P (made_of ms) m)
  last-left p h d i =
      let D = made_of ms in
      let there = flat_map-in (due_decisions P D) (take (F.last + 1) F.ids) d (subst (In d) (sym p.queue_is ∙ r.queue) (in-append_right (in_order D) p.left d i)) in
      let at_last : slice_get F.ids F.last ≡ Some m = ap (slice_get F.ids) (sym h) ∙ stands in
      elim (take-suc-cases F.ids F.last m there.0 at_last (subst (λ n. In there.0 (take n F.ids)) (add-one F.last) there.1)) [
        | inl j ↦ absurd (no-made D d (p.left_open d i) (earlier-made P L ms F r there.0 d j there.2))
        | inr same ↦ subst (λ x. In d (due_decisions P D x)) same there.2
      ]

  last-made : (p : IsParted P (made_of ms) F) → place ≡ F.last → (d : Decision) → In d (due_decisions P (made_of ms) m) → IsMade (made_of ms) d ⊎ In d p.left
  last-made p h d i =
      let D = made_of ms in
      elim (in-append_cases (in_order D) p.left d (subst (In d) (sym r.queue ∙ p.queue_is) (in-flat_map (due_decisions P D) (take (F.last + 1) F.ids) m d (get-take F.ids place (F.last + 1) m stands (omega (arith, h))) i))) [
        | inl a ↦ inl (in_order-made D d a)
        | inr b ↦ inr b
      ]

  last-decides : (p : IsParted P (made_of ms) F) → place ≡ F.last → Decides (not (list_any (is_spatial P.world.known) p.left)) (IsDecided P (made_of ms) m)
  last-decides p h = (
    λ none. inr (
      member,
      λ d i s. elim (last-made p h d i) [
        | inl made ↦ made
        | inr j ↦ absurd (no-false (list_any (is_spatial P.world.known) p.left) none (in-any (is_spatial P.world.known) p.left d j (spatial-true P d s)))
      ],
    ),
    λ decided. not-true (list_any (is_spatial P.world.known) p.left) (λ t.
        let a = any-in (is_spatial P.world.known) p.left t in
        no-made (made_of ms) a.0 (p.left_open a.0 a.1) (decided-own P L (made_of ms) m member decided a.0 (last-left p h a.0 a.1) (true-spatial P a.0 a.2))),
  )

  -- what is left of the queue is what is left of its decisions
  left-turn : (p : IsParted P (made_of ms) F) → place ≡ F.last → InTurn (is_spatial P.world.known) p.left
  left-turn p h =
      let D = made_of ms in
      let before = flat_map (due_decisions P D) (take F.last F.ids) in
      let at_last : slice_get F.ids F.last ≡ Some m = ap (slice_get F.ids) (sym h) ∙ stands in
      let is : m ≡ get_or F.ids F.last m = sym (some-inj (get_or F.ids F.last m) m (sym (get-some F.ids F.last m r.last_in) ∙ at_last)) in
      let whole : (before ++ due_decisions P D m) ≡ (in_order D ++ p.left) = sym (r.queue ∙ one-more (due_decisions P D) F.ids F.last m r.last_in is) ∙ p.queue_is in
      let c = cut before (due_decisions P D m) (in_order D) p.left whole (let a = length-in_order D in let b = length-made_of ms in let e = r.done in omega (arith, a, b, e)) in
      later-turn (is_spatial P.world.known) c.0 p.left (subst (InTurn (is_spatial P.world.known)) c.2 (due-turn P m D))

  -- at the last one that is opened: the next decision is not of space
  pub decided-last : (n : ℕ) → n ≡ length ms → place ≡ F.last → Decides (not (is_spatial_next P.world.known (slice_get F.queue n))) (IsDecided P (made_of ms) m)
  decided-last n size h =
      let p = parted P L ms F r in
      let D = made_of ms in
      let spatial = is_spatial P.world.known in
      let all : is_spatial_next P.world.known (slice_get F.queue n) ≡ list_any spatial p.left =
      next-passes P.world.known F.queue n
      ∙ ap (λ l. passes spatial (slice_get l n)) p.queue_is
      ∙ ap (λ k. passes spatial (slice_get (in_order D ++ p.left) k)) (size ∙ sym (length-made_of ms) ∙ sym (length-in_order D))
      ∙ ap (passes spatial) (get-append_at (in_order D) p.left)
      ∙ first-turn spatial p.left (left-turn p h) in
      subst (λ b. Decides (not b) (IsDecided P D m)) (sym all) (last-decides p h)

  later-open : F.last < place → (d : Decision) → In d (due_decisions P (made_of ms) m) → value_made (made_of ms) d ≡ None
  later-open h d i =
      (parted P L ms F r).later_open d (in-flat_map (due_decisions P (made_of ms)) (drop (F.last + 1) F.ids) m d (get-drop F.ids place (F.last + 1) m stands (omega (arith, h))) i)

-- ---- a member of which nothing is decided

none-not : (cs : List CapRef) (c : CapRef) → In c cs → is_none_of cs ≡ false
none-not [] c i = elim i [ ]
none-not (x ∷ xs) c i = refl

single-asks : (a b c : Bool) → IsTrue a → IsTrue b → c ≡ false → (n : Bool) → IsTrue ((a && b) && not (c && n))
single-asks true true false s t e n = refl
single-asks true true true s t e n = cc
single-asks true false c s t e n = cc
single-asks false b c s t e n = cc

several-asks : (a b c n : Bool) → IsTrue a → IsTrue b → n ≡ false → IsTrue ((a && b) && not (c && n))
several-asks true true true false s t e = refl
several-asks true true false false s t e = refl
several-asks true true c true s t e = cc
several-asks true false c n s t e = cc
several-asks false b c n s t e = cc

asks-cases : (a b c n : Bool) → IsTrue ((a && b) && not (c && n)) → IsTrue a × IsTrue b × ((c ≡ false) ⊎ (c ≡ true) × (n ≡ false))
asks-cases true true false n t = (refl, refl, inl refl)
asks-cases true true true false t = (refl, refl, inr (refl, refl))
asks-cases true true true true t = cc
asks-cases true false c n t = cc
asks-cases false b c n t = cc

some-of : (cs : List CapRef) → is_none_of cs ≡ false → (c : CapRef) × In c cs
some-of [] e = cc
some-of (c ∷ cs) e = (c, inl refl)

lone-none : (fs : List RevisionId) → IsTrue (is_lone fs) → (f : RevisionId) → In f fs → ⊥
lone-none [] t f i = elim i [ ]
lone-none (x ∷ xs) t f i = cc

none-lone : (fs : List RevisionId) → ((f : RevisionId) → In f fs → ⊥) → IsTrue (is_lone fs)
none-lone [] none = refl
none-lone (x ∷ xs) none = absurd (none x (inl refl))

lone-own : (P : Problem) (D : Made) (m : RevisionId) (q : ReqRef) → ((f : RevisionId) → In f (matching P m) → ⊥) → In q (payload P D m) → In q (own_requirements P.world.known m)
lone-own P D m q none i =
    let p = payload-in P D m q i in
    elim p.0 [
      | inl own ↦ in-own P m q own (subst (λ o. q.index < Rattle.osgi_world.specs.Lookups.requirement_count P.world.known o) own p.1)
      | inr f ↦ absurd (none q.owner (fragments-in P D m q.owner f).0)
    ]

free-made : (P : Problem) (D : Made) (m : RevisionId) (d : Decision) → ((f : RevisionId) → In f (matching P m) → ⊥) → (IsTrue (list_any (asks_space P) (own_requirements P.world.known m)) → ⊥) → IsDue P D m d → IsSpatial P d → IsMade D d
free-made P D m d lone none (attaches f i e) s = absurd (lone f i)
free-made P D m d lone none (chooses q i eff all mult e) s =
    absurd (none (in-any (asks_space P) (own_requirements P.world.known m) q (lone-own P D m q lone i)
    (single-asks (is_effective P.world.known q) (is_of_space (requirement_namespace P.world.known q)) (is_multiple P.world.known q) eff (subst (IsSpatial P) e s) mult (is_none_of (candidates P q)))))
free-made P D m d lone none (picks q c i eff all mult j e) s =
    absurd (none (in-any (asks_space P) (own_requirements P.world.known m) q (lone-own P D m q lone i)
    (several-asks (is_effective P.world.known q) (is_of_space (requirement_namespace P.world.known q)) (is_multiple P.world.known q) (is_none_of (candidates P q)) eff (subst (IsSpatial P) e s) (none-not (candidates P q) c j))))

-- where its decisions are open, one that asks for a space is not decided
asks-clash : (P : Problem) (D : Made) (m : RevisionId) → ((f : RevisionId) → In f (matching P m) → ⊥) → ((d : Decision) → In d (due_decisions P D m) → IsSpatial P d → ⊥) → IsTrue (list_any (asks_space P) (own_requirements P.world.known m)) → ⊥
asks-clash P D m lone none t =
    let a = any-in (asks_space P) (own_requirements P.world.known m) t in
    let q = a.0 in
    let o = own-in P m q a.1 in
    let x = asks-cases (is_effective P.world.known q) (is_of_space (requirement_namespace P.world.known q)) (is_multiple P.world.known q) (is_none_of (candidates P q)) a.2 in
    let there = in-payload P D m q (inl o.0) (subst (λ r. q.index < Rattle.osgi_world.specs.Lookups.requirement_count P.world.known r) (sym o.0) o.1) in
    let all : AllAttached P D m = λ f i. absurd (lone f i) in
    elim x.2 [
      | inl single ↦ none (choose m q) (in-due_choose P D m q all there x.0 single) x.1
      | inr several ↦ let c = some-of (candidates P q) several.1 in none (pick m q c.0) (in-due_pick P D m q c.0 all there x.0 several.0 c.1) x.1
    ]

and-true : (a b : Bool) → IsTrue a → not b ≡ true → (a && not b) ≡ true
and-true true b t e = e
and-true false b t e = cc

module _ (P : Problem) (L : IsProblem P) (ms : List Mark) (F : CourseLists) (r : IsRight P ms F) (place : ℕ) (m : RevisionId) (stands : slice_get F.ids place ≡ Some m) where
  -- after it: there is nothing of space to decide
  pub decided-later : F.last < place → Decides (is_free P m) (IsDecided P (made_of ms) m)
  decided-later h =
      let D = made_of ms in
      let inside : In m (members P D) = subst (In m) r.ids (get-in F.ids place m stands) in (
        λ free.
            let both = and-cases (is_lone (matching P m)) (not (list_any (asks_space P) (own_requirements P.world.known m))) free in
            inr (inside, λ d i s. free-made P D m d (lone-none (matching P m) both.0) (no-false (list_any (asks_space P) (own_requirements P.world.known m)) both.1) (due-in P D m d i) s),
        λ decided.
            let none : (d : Decision) → In d (due_decisions P D m) → IsSpatial P d → ⊥ = λ d i s. no-made D d (later-open P L ms F r place m stands h d i) (decided-own P L D m inside decided d i s) in
            let lone : (f : RevisionId) → In f (matching P m) → ⊥ = λ f i. none (attaching m f) (in-due_attach P D m f i) tt in
            and-true (is_lone (matching P m)) (list_any (asks_space P) (own_requirements P.world.known m)) (none-lone (matching P m) lone) (not-true (list_any (asks_space P) (own_requirements P.world.known m)) (asks-clash P D m lone none)),
      )
