-- The decisions on the wires of a requirement are made in the order of its candidates.
use Rattle.std.proofs.Common.{◌≡◌, ◌≢◌, inl, inr, ℕ, Bool, true, false, List, [], ◌∷◌, ◌++◌, map, flat_map, None, Some, refl, sym, ◌∙◌, ap, subst, IsTrue}
use Rattle.std.specs.Prelude.{if◌then◌else◌}
use Rattle.std.specs.List.{list_any}
use Rattle.osgi_base.specs.declared.ids.RevisionId.{RevisionId}
use Rattle.osgi_resolver_theory.proofs.Lists.{any-in, in-append_cases, in-append_left, in-append_right, in-flat_map, in-map, map-in}
use Rattle.osgi_resolver_theory.proofs.Queue.{in_order-made, made-in_order, queue-once, queued}
use Rattle.osgi_resolver_theory.proofs.States.{AllAttached, IsDue, due-host, in-in_turn, is_due-in, next-due}
use Rattle.osgi_resolver_theory.proofs.Twos.{cap-dec}
use Rattle.osgi_resolver_theory.proofs.Values.{made-not_open, value-cases}
use Rattle.osgi_resolver_theory.proofs.Views.{Asked, due-picked}
use Rattle.osgi_resolver_theory.proofs.Words.{word-state}
use Rattle.osgi_resolver_theory.specs.Queue.{in_order}
use Rattle.osgi_resolver_theory.specs.States.{State}
use Rattle.osgi_resolver_decisions.specs.DecisionOf.{decision_of}
use Rattle.osgi_resolver_path.specs.Last.{IsLast}
use Rattle.osgi_resolver_path.specs.Standing.{IsProblemOf, Standing, made}
use Rattle.osgi_resolver_path.specs.declared.last.Last.{Last}
use Rattle.osgi_resolver_hopeless.proofs.Tested.{made-is}
use Rattle.osgi_resolver_hopeless.specs.computed.Stuck.{AreRefused, CannotBeMet}
use Rattle.osgi_world.specs.ChoiceWords.{made_by}
use Rattle.osgi_world.specs.Candidates.{IsProblem, candidates, matching}
use Rattle.osgi_world.specs.Decisions.{Decision, IsMade, Made, attaching, choose, is_open, pick, value_made}
use Rattle.osgi_world.specs.DueDecisions.{attachments, decisions_of, due_decisions, in_turn, members, next_decision, payload, queue}
use Rattle.osgi_world.specs.Lists.{In, Two}
use Rattle.osgi_world.specs.Lookups.{is_multiple}
use Rattle.osgi_world.specs.declared.problem.Problem.{Problem}
use Rattle.osgi_world.specs.declared.wiring.CapRef.{CapRef}
use Rattle.osgi_world.specs.declared.wiring.ReqRef.{ReqRef}

-- ---- what stands before what

-- x stands before y
abbrev Stands : {X : Type 0} → X → X → List X → Type 0
Stands x y xs = Two (λ a b. (a ≡ x) × (b ≡ y)) xs

two-left : {X : Type 0} (R : X → X → Type 0) (xs ys : List X) → Two R xs → Two R (xs ++ ys)
two-left R [] ys t = elim t [ ]
two-left R (x ∷ xs) ys (inl h) = inl (h.0, in-append_left xs ys h.0 h.1, h.2)
two-left R (x ∷ xs) ys (inr t) = inr (two-left R xs ys t)

two-right : {X : Type 0} (R : X → X → Type 0) (xs ys : List X) → Two R ys → Two R (xs ++ ys)
two-right R [] ys t = t
two-right R (x ∷ xs) ys t = inr (two-right R xs ys t)

across : {X : Type 0} (R : X → X → Type 0) (xs ys : List X) (x y : X) → In x xs → In y ys → R x y → Two R (xs ++ ys)
across R [] ys x y i j r = elim i [ ]
across R (z ∷ xs) ys x y (inl e) j r = inl (y, in-append_right xs ys y j, subst (λ k. R k y) e r)
across R (z ∷ xs) ys x y (inr i) j r = inr (across R xs ys x y i j r)

second : {X : Type 0} (R : X → X → Type 0) (xs : List X) → Two R xs → (a b : X) × In b xs × R a b
second R [] t = elim t [ ]
second R (x ∷ xs) (inl h) = (x, h.0, inr h.1, h.2)
second R (x ∷ xs) (inr t) = let r = second R xs t in (r.0, r.1, inr r.2, r.3)

stands-map : {X Y : Type 0} (f : X → Y) (x y : X) (xs : List X) → Stands x y xs → Stands (f x) (f y) (map f xs)
stands-map f x y [] t = elim t [ ]
stands-map f x y (z ∷ xs) (inl h) = inl (f h.0, in-map f xs h.0 h.1, (ap f h.2.0, ap f h.2.1))
stands-map f x y (z ∷ xs) (inr t) = inr (stands-map f x y xs t)

stands-parts : {X Y : Type 0} (f : X → List Y) (x y : Y) (xs : List X) (k : X) → In k xs → Stands x y (f k) → Stands x y (flat_map f xs)
stands-parts f x y [] k i t = elim i [ ]
stands-parts f x y (z ∷ xs) k (inl e) t = two-left _ (f z) (flat_map f xs) (subst (λ j. Stands x y (f j)) e t)
stands-parts f x y (z ∷ xs) k (inr i) t = two-right _ (f z) (flat_map f xs) (stands-parts f x y xs k i t)

-- in a list that has each item once, not both ways
one-way : {X : Type 0} (xs : List X) (x y : X) → ¬ Two ◌≡◌ xs → Stands x y xs → Stands y x xs → ⊥
one-way [] x y once t u = elim t [ ]
one-way (z ∷ xs) x y once (inl h) (inl k) = once (inl (h.0, h.1, k.2.0 ∙ sym h.2.1))
one-way (z ∷ xs) x y once (inl h) (inr u) = let s = second _ xs u in once (inl (s.1, s.2, h.2.0 ∙ sym s.3.1))
one-way (z ∷ xs) x y once (inr t) (inl k) = let s = second _ xs t in once (inl (s.1, s.2, k.2.0 ∙ sym s.3.1))
one-way (z ∷ xs) x y once (inr t) (inr u) = one-way xs x y (λ w. once (inr w)) t u

-- an item before the last
before-last : {X : Type 0} (xs : List X) (x y : X) → In x (xs ++ y ∷ []) → x ≢ y → Stands x y (xs ++ y ∷ [])
before-last xs x y i apart = elim (in-append_cases xs (y ∷ []) x i) [
  | inl a ↦ across _ xs (y ∷ []) x y a (inl refl) (refl, refl)
  | inr (inl e) ↦ absurd (apart e)
  | inr (inr n) ↦ elim n [ ]
]

-- the last of a list that has an item
ends-with : {X : Type 0} (xs : List X) (x : X) → In x xs → (before : List X) × (y : X) × (xs ≡ before ++ y ∷ [])
ends-with [] x i = elim i [ ]
ends-with (y ∷ []) x i = ([], y, refl)
ends-with (y ∷ z ∷ zs) x i = let r = ends-with (z ∷ zs) z (inl refl) in (y ∷ r.0, r.1, ap (λ l. y ∷ l) r.2)

-- ---- decisions

abbrev capability_in : CapRef → Decision → CapRef
capability_in c (attaching h f) = c
capability_in c (choose h q) = c
capability_in c (pick h q d) = d

pick-same : (m : RevisionId) (q : ReqRef) (c d : CapRef) → pick m q c ≡ pick m q d → c ≡ d
pick-same m q c d e = ap (capability_in c) e

-- the next decision is on a wire of a member's requirement, which is asked for, and may have several wires
record IsNextPick (P : Problem) (D : Made) (m : RevisionId) (q : ReqRef) (c : CapRef) : Type 0 where
  member : In m (members P D)
  is_due : IsDue P D m (pick m q c)
  asked : Asked P D m q
  multiple : is_multiple P.world.known q ≡ true
  listed : In c (candidates P q)
  is_open : value_made D (pick m q c) ≡ None

next-pick : (P : Problem) (D : Made) (m : RevisionId) (q : ReqRef) (c : CapRef) → next_decision P D ≡ Some (pick m q c) → IsNextPick P D m q c
next-pick P D m q c next =
    let x = next-due P D (pick m q c) next in
    let same : x.0 ≡ m = sym (due-host P D x.0 (pick m q c) x.2) in
    let is_due = subst (λ h. IsDue P D h (pick m q c)) same x.2 in
    let at = due-picked P D m q c is_due in
    record { member = subst (λ h. In h (members P D)) same x.1; is_due = is_due; asked = at.0; multiple = at.1; listed = at.2; is_open = x.3 }

module _ (P : Problem) (D : Made) (m : RevisionId) (q : ReqRef) (c d : CapRef) where
  picks-stand : (b : Bool) → b ≡ true → Stands c d (candidates P q) → Stands (pick m q c) (pick m q d) (if b then map (pick m q) (candidates P q) else choose m q ∷ [])
  picks-stand true e t = stands-map (pick m q) c d (candidates P q) t
  picks-stand false e t = cc

  choices-stand : (b : Bool) → list_any (is_open D) (attachments P m) ≡ b → AllAttached P D m → Stands (pick m q c) (pick m q d) (flat_map (decisions_of P m) (in_turn P (payload P D m))) →
      Stands (pick m q c) (pick m q d) (if b then [] else flat_map (decisions_of P m) (in_turn P (payload P D m)))
  choices-stand true e all t =
      let a = any-in (is_open D) (attachments P m) e in
      let f = map-in (attaching m) (matching P m) a.0 a.1 in
      absurd (made-not_open D (attaching m f.0) (all f.0 f.1) (subst (λ x. IsTrue (is_open D x)) f.2 a.2))
  choices-stand false e all t = t

  -- they stand in the queue as the candidates do
  module _ (L : IsProblem P) (s : State P D) (x : IsNextPick P D m q c) where
    queue-stands : Stands c d (candidates P q) → Stands (pick m q c) (pick m q d) (queue P D)
    queue-stands t =
        let turn = in_turn P (payload P D m) in
        let inside = stands-parts (decisions_of P m) (pick m q c) (pick m q d) turn q (in-in_turn P (payload P D m) q x.asked.in_payload x.asked.effective) (picks-stand (is_multiple P.world.known q) x.multiple t) in
        stands-parts (due_decisions P D) (pick m q c) (pick m q d) (members P D) m x.member
        (two-right (λ a b. (a ≡ pick m q c) × (b ≡ pick m q d)) (attachments P m) _ (choices-stand (list_any (is_open D) (attachments P m)) refl x.asked.attached inside))

    -- what is made stands before what is not
    made-before : IsMade D (pick m q d) → Stands (pick m q d) (pick m q c) (queue P D)
    made-before is =
        let w = queued P L D s in
        let there : In (pick m q c) (queue P D) = in-flat_map (due_decisions P D) (members P D) m (pick m q c) x.member (is_due-in P D m (pick m q c) x.is_due) in
        let old-not : In (pick m q c) (in_order D) → ⊥ = λ old. let made = (in_order-made D (pick m q c) old).1 in let none = x.is_open in cc in
        let left : In (pick m q c) w.rest = elim (in-append_cases (in_order D) w.rest (pick m q c) (subst (In (pick m q c)) w.is there)) [ inl old ↦ absurd (old-not old) | inr new ↦ new ] in
        subst (Stands (pick m q d) (pick m q c)) (sym w.is) (across (λ a b. (a ≡ pick m q d) × (b ≡ pick m q c)) (in_order D) w.rest (pick m q d) (pick m q c) (made-in_order D (pick m q d) is) left (refl, refl))

-- where the last decision is not on the last candidate, not all wires of the requirement are refused
not-last : (P : Problem) → IsProblem P → (D : Made) → State P D → (m : RevisionId) (q : ReqRef) (c : CapRef) (v : ℕ) → IsNextPick P D m q c → (before : List CapRef) (d : CapRef) → candidates P q ≡ before ++ d ∷ [] → c ≢ d →
    ¬ AreRefused ((pick m q c, v) ∷ D) m q (candidates P q)
not-last P L D s m q c v x before d is apart all =
    let there : In d (candidates P q) = subst (In d) (sym is) (in-append_right before (d ∷ []) d (inl refl)) in
    let order : Stands c d (candidates P q) = subst (Stands c d) (sym is) (before-last before c d (subst (In c) is x.listed) apart) in
    elim (value-cases D (pick m q c) v (pick m q d) 1 (all d there)) [
      | inl new ↦ apart (sym (pick-same m q d c new.0))
      | inr old ↦ one-way (queue P D) (pick m q c) (pick m q d) (queue-once P L D) (queue-stands P D m q c d L s x order) (made-before P D m q c d L s x (1, old))
    ]

-- ---- the last decision

-- where a requirement can get no wire any more, a last decision on one of its wires is on that to the last candidate
module _ (s : Standing) (P : Problem) (L : IsProblemOf s P) (last : Last) (x : IsLast P s last) where
  pub last-pick : (m : RevisionId) (q : ReqRef) (c : CapRef) → decision_of last.decision ≡ pick m q c → CannotBeMet P (made P s) m q → (before : List CapRef) × (candidates P q ≡ before ++ c ∷ [])
  last-pick m q c is u =
      let D = made_by P x.before in
      let n = next-pick P D m q c (x.next ∙ ap Some is) in
      let end = ends-with (candidates P q) c n.listed in
      let now : made P s ≡ ((pick m q c, last.value) ∷ D) = made-is s P L last x ∙ ap (λ (k : Decision). (k, last.value) ∷ D) is in
      elim u.no_wire [
        | inl none ↦ elim (subst (In c) none n.listed) [ ]
        | inr refused ↦ elim (cap-dec c end.1) [
          | inl same ↦ (end.0, end.2 ∙ ap (λ (k : CapRef). end.0 ++ k ∷ []) (sym same))
          | inr apart ↦ absurd (not-last P L.is D (word-state P x.before x.word) m q c last.value n end.0 end.1 end.2 apart (subst (λ (E : Made). AreRefused E m q (candidates P q)) now refused.1))
        ]
      ]
