-- A step takes the first open decision of the queue, and leaves what stands before it as it is.
use Rattle.std.proofs.Common.{◌≡◌, ◌≢◌, ℕ, ◌==◌, ◌&&◌, ◌||◌, ◌⊎◌, inl, inr, Bool, true, false, cond, IsTrue, if◌then◌else◌, List, [], ◌∷◌, ◌++◌, map, filter, flat_map, find, Option, None, Some, refl, sym, ◌∙◌, ap, ap₂, subst, append_assoc, append-nil, arith}
use Rattle.std.specs.List.{list_any}
use Rattle.std.specs.Prelude.{codes, ◌||◌, not}
use Rattle.std.specs.Cmp.Lexicographic.{bytes_decides}
use Rattle.std.proofs.lemmas.Bool.{false≢true}
use Rattle.osgi_base.specs.declared.ids.RevisionId.{RevisionId}
use Rattle.osgi_world.specs.Candidates.{IsProblem, candidates, matching}
use Rattle.osgi_world.specs.Decisions.{Decision, IsMade, Made, attaching, choose, host, is_open, is_yes, pick, value_made}
use Rattle.osgi_world.specs.DueDecisions.{attachments, decisions_of, due_decisions, fragments_of, in_turn, is_in_force, is_generic, members, next_decision, of_kind, payload, pull_in, pulled, queue}
use Rattle.osgi_world.specs.Lists.{In, Two}
use Rattle.osgi_world.specs.Lookups.{bundle_of, is_effective, is_host_of, is_multiple, requirement_namespace}
use Rattle.osgi_world.specs.Payloads.{current_fragments, own_requirements}
use Rattle.osgi_world.specs.Satisfaction.{is_bundle, is_package}
use Rattle.osgi_world.specs.declared.problem.Problem.{Problem}
use Rattle.osgi_world.specs.declared.wiring.CapRef.{CapRef}
use Rattle.osgi_world.specs.declared.wiring.ReqRef.{ReqRef}
use Rattle.osgi_resolver_theory.proofs.Complete.{candidates-once, members-once, payload-once}
use Rattle.osgi_resolver_theory.proofs.Laws.{laws}
use Rattle.osgi_resolver_theory.proofs.Lists.{and-cases, any-in, filter-in, in-append_cases, in-append_left, in-append_right, in-map, map-in, true-or-false}
use Rattle.osgi_resolver_theory.proofs.States.{AllAttached, due-host, due-in, next-due}
use Rattle.osgi_resolver_theory.proofs.Twos.{two-append, two-flat_map, two-map, two-unfilter, two-weaker}
use Rattle.osgi_resolver_theory.proofs.Values.{made-kept, made-not_open, not-open_made, open-none, some-inj, value-cases, value-head, value-kept}
use Rattle.osgi_resolver_theory.specs.Queue.{IsQueued, in_order}
use Rattle.osgi_resolver_theory.specs.States.{State, start, step}

-- ---- the made ones in order

pub in_order-made : (D : Made) (d : Decision) → In d (in_order D) → IsMade D d
in_order-made [] d i = elim i [ ]
in_order-made (t ∷ D) d i = elim (in-append_cases (in_order D) (t.0 ∷ []) d i) [
  | inl a ↦ made-more t.0 t.1 D d (in_order-made D d a)
  | inr (inl e) ↦ (t.1, subst (λ x. value_made (t ∷ D) x ≡ Some t.1) (sym e) (value-head D t.0 t.1))
  | inr (inr x) ↦ elim x [ ]
]
  where
    pick-value : (b : Bool) (v : ℕ) (o : Option ℕ) → ((w : ℕ) × (o ≡ Some w)) → (w : ℕ) × ((if b then Some v else o) ≡ Some w)
    pick-value true v o m = (v, refl)
    pick-value false v o m = m

    made-more : (x : Decision) (v : ℕ) (D : Made) (d : Decision) → IsMade D d → IsMade ((x, v) ∷ D) d
    made-more x v D d m = pick-value (Rattle.osgi_world.specs.Decisions.same_decision x d) v (value_made D d) m

pub made-in_order : (D : Made) (d : Decision) → IsMade D d → In d (in_order D)
made-in_order [] d m = let e = m.1 in cc
made-in_order (t ∷ D) d m = elim (value-cases D t.0 t.1 d m.0 m.1) [
  | inl same ↦ in-append_right (in_order D) (t.0 ∷ []) d (inl same.0)
  | inr old ↦ in-append_left (in_order D) (t.0 ∷ []) d (made-in_order D d (m.0, old))
]

-- ---- no decision stands twice

abbrev fragment_in : Decision → RevisionId
fragment_in (attaching h f) = f
fragment_in (choose h q) = h
fragment_in (pick h q c) = h

abbrev candidate_in : CapRef → Decision → CapRef
candidate_in c (attaching h f) = c
candidate_in c (choose h q) = c
candidate_in c (pick h q d) = d

attach-fragment : (h f g : RevisionId) → attaching h f ≡ attaching h g → f ≡ g
attach-fragment h f g e = ap fragment_in e

pick-candidate : (h : RevisionId) (q : ReqRef) (c d : CapRef) → pick h q c ≡ pick h q d → c ≡ d
pick-candidate h q c d e = ap (candidate_in c) e

abbrev requirement_of : ReqRef → Decision → ReqRef
requirement_of n (attaching h f) = n
requirement_of n (choose h q) = q
requirement_of n (pick h q c) = q

matching-once : (P : Problem) → IsProblem P → (m : RevisionId) → ¬ Two ◌≡◌ (matching P m)
matching-once P L m t = (laws P L).fragments_ordered (two-weaker ◌≡◌ (λ e f. Rattle.std.specs.Prelude.◌≤◌ ((bundle_of P.world.known) f) ((bundle_of P.world.known) e)) (λ e f s. let b = ap (bundle_of P.world.known) s in omega (arith, b)) (current_fragments P.world.known) (two-unfilter ◌≡◌ (λ f. (is_host_of P.world.known) f m) (current_fragments P.world.known) t))

attachments-once : (P : Problem) → IsProblem P → (m : RevisionId) → ¬ Two ◌≡◌ (attachments P m)
attachments-once P L m t = matching-once P L m (two-weaker (λ f g. attaching m f ≡ attaching m g) ◌≡◌ (attach-fragment m) (matching P m) (two-map (attaching m) ◌≡◌ (matching P m) t))

of-kind : (P : Problem) (test : List ℕ → Bool) (qs : List ReqRef) (q : ReqRef) → In q (of_kind P test qs) → IsTrue (test (requirement_namespace P.world.known q))
of-kind P test qs q i =
    let r = filter-in (λ q. (is_effective P.world.known q) && test (requirement_namespace P.world.known q)) qs q i in
    (and-cases (is_effective P.world.known q) (test (requirement_namespace P.world.known q)) r.1).1

not-both : (k : List ℕ) → IsTrue (is_bundle k) → IsTrue (is_package k) → ⊥
not-both k t u =
    let n : IsTrue (is_package (codes "osgi.wiring.bundle")) = subst (λ x. IsTrue (is_package x)) ((bytes_decides k (codes "osgi.wiring.bundle")).0 t) u in
    false≢true n

other-go : (a b : Bool) → IsTrue a ⊎ IsTrue b → IsTrue (not (a || b)) → ⊥
other-go true b h t = cc
other-go false true h t = cc
other-go false false (inl h) t = cc
other-go false false (inr h) t = cc

kind-bundle : (k : List ℕ) → IsTrue (is_bundle k) → IsTrue (is_package k) ⊎ IsTrue (is_generic k) → ⊥
kind-bundle k t (inl u) = not-both k t u
kind-bundle k t (inr u) = other-go (is_bundle k) (is_package k) (inl t) u

kind-package : (k : List ℕ) → IsTrue (is_package k) → IsTrue (is_generic k) → ⊥
kind-package k t u = other-go (is_bundle k) (is_package k) (inr t) u

kind-once : (P : Problem) (test : List ℕ → Bool) (qs : List ReqRef) → ¬ Two ◌≡◌ qs → ¬ Two ◌≡◌ (of_kind P test qs)
kind-once P test qs once t = once (two-unfilter ◌≡◌ (λ q. (is_effective P.world.known q) && test (requirement_namespace P.world.known q)) qs t)

later-once : (P : Problem) (qs : List ReqRef) → ¬ Two ◌≡◌ qs → ¬ Two ◌≡◌ (of_kind P is_package qs ++ of_kind P is_generic qs)
later-once P qs once t = elim (two-append ◌≡◌ (of_kind P is_package qs) (of_kind P is_generic qs) t) [
  | inl a ↦ kind-once P is_package qs once a
  | inr (inl b) ↦ kind-once P is_generic qs once b
  | inr (inr (q, n, i, j, e)) ↦ kind-package (requirement_namespace P.world.known q) (of-kind P is_package qs q i) (subst (λ x. IsTrue (is_generic (requirement_namespace P.world.known x))) (sym e) (of-kind P is_generic qs n j))
]

later-kind : (P : Problem) (qs : List ReqRef) (q n : ReqRef) → q ≡ n → In n (of_kind P is_package qs) ⊎ In n (of_kind P is_generic qs) → IsTrue (is_package (requirement_namespace P.world.known q)) ⊎ IsTrue (is_generic (requirement_namespace P.world.known q))
later-kind P qs q n e (inl i) = inl (subst (λ x. IsTrue (is_package (requirement_namespace P.world.known x))) (sym e) (of-kind P is_package qs n i))
later-kind P qs q n e (inr i) = inr (subst (λ x. IsTrue (is_generic (requirement_namespace P.world.known x))) (sym e) (of-kind P is_generic qs n i))

in_turn-once : (P : Problem) (qs : List ReqRef) → ¬ Two ◌≡◌ qs → ¬ Two ◌≡◌ (in_turn P qs)
in_turn-once P qs once t = elim (two-append ◌≡◌ (of_kind P is_bundle qs) (of_kind P is_package qs ++ of_kind P is_generic qs) t) [
  | inl a ↦ kind-once P is_bundle qs once a
  | inr (inl b) ↦ later-once P qs once b
  | inr (inr (q, n, i, j, e)) ↦ kind-bundle (requirement_namespace P.world.known q) (of-kind P is_bundle qs q i) (later-kind P qs q n e (in-append_cases (of_kind P is_package qs) (of_kind P is_generic qs) n j))
]

one-once : {X : Type 0} (x : X) → ¬ Two ◌≡◌ (x ∷ [])
one-once x (inl h) = elim h.1 [ ]
one-once x (inr t) = elim t [ ]

decisions-once : (P : Problem) → IsProblem P → (m : RevisionId) (q : ReqRef) (b : Bool) → ¬ Two ◌≡◌ (if b then map (pick m q) (candidates P q) else choose m q ∷ [])
decisions-once P L m q true t = candidates-once P L q (two-weaker (λ c d. pick m q c ≡ pick m q d) ◌≡◌ (pick-candidate m q) (candidates P q) (two-map (pick m q) ◌≡◌ (candidates P q) t))
decisions-once P L m q false t = one-once (choose m q) t

decision-of : (P : Problem) (m : RevisionId) (q n : ReqRef) (d : Decision) (b : Bool) → In d (if b then map (pick m q) (candidates P q) else choose m q ∷ []) → (requirement_of n d ≡ q) × ((h f : RevisionId) → d ≢ attaching h f)
decision-of P m q n d true i = let c = map-in (pick m q) (candidates P q) d i in (ap (requirement_of n) c.2, λ h f e. let s = sym c.2 ∙ e in cc)
decision-of P m q n d false (inl e) = (ap (requirement_of n) e, λ h f g. let s = sym e ∙ g in cc)
decision-of P m q n d false (inr i) = elim i [ ]

choices-once : (P : Problem) → IsProblem P → (D : Made) (m : RevisionId) (b : Bool) → ¬ Two ◌≡◌ (if b then [] else flat_map (decisions_of P m) (in_turn P (payload P D m)))
choices-once P L D m true t = elim t [ ]
choices-once P L D m false t = in_turn-once P (payload P D m) (payload-once P L D m)
    (two-flat_map (decisions_of P m) ◌≡◌ (λ q. decisions-once P L m q (is_multiple P.world.known q))
    (λ a b y z i j e. sym (decision-of P m a a y (is_multiple P.world.known a) i).0 ∙ ap (requirement_of a) e ∙ (decision-of P m b a z (is_multiple P.world.known b) j).0) (in_turn P (payload P D m)) t)

no-attachment : (P : Problem) (D : Made) (m : RevisionId) (d : Decision) (b : Bool) → In d (if b then [] else flat_map (decisions_of P m) (in_turn P (payload P D m))) → (h f : RevisionId) → d ≢ attaching h f
no-attachment P D m d true i h f = elim i [ ]
no-attachment P D m d false i h f =
    let q = Rattle.osgi_resolver_theory.proofs.Lists.flat_map-in (decisions_of P m) (in_turn P (payload P D m)) d i in
    (decision-of P m q.0 q.0 d (is_multiple P.world.known q.0) q.2).1 h f

pub due-once : (P : Problem) → IsProblem P → (D : Made) (m : RevisionId) → ¬ Two ◌≡◌ (due_decisions P D m)
due-once P L D m t = elim (two-append ◌≡◌ (attachments P m) (if list_any (is_open D) (attachments P m) then [] else flat_map (decisions_of P m) (in_turn P (payload P D m))) t) [
  | inl a ↦ attachments-once P L m a
  | inr (inl b) ↦ choices-once P L D m (list_any (is_open D) (attachments P m)) b
  | inr (inr (x, y, i, j, e)) ↦ let f = map-in (attaching m) (matching P m) x i in no-attachment P D m y (list_any (is_open D) (attachments P m)) j m f.0 (sym e ∙ f.2)
]

pub queue-once : (P : Problem) → IsProblem P → (D : Made) → ¬ Two ◌≡◌ (queue P D)
queue-once P L D t = members-once P D
    (two-flat_map (due_decisions P D) ◌≡◌ (due-once P L D) (λ a b y z i j e. sym (due-host P D a y (due-in P D a y i)) ∙ ap host e ∙ due-host P D b z (due-in P D b z j)) (members P D) t)

-- ---- what stands before the next decision stays

cons-tail : {X : Type 0} (x y : X) (xs ys : List X) → (x ∷ xs) ≡ (y ∷ ys) → xs ≡ ys
cons-tail x y xs ys e = cc

cons-head : {X : Type 0} (x y : X) (xs ys : List X) → (x ∷ xs) ≡ (y ∷ ys) → x ≡ y
cons-head x y xs ys e = cc

cons-both : {X : Type 0} {x y : X} {xs ys : List X} → x ≡ y → xs ≡ ys → (x ∷ xs) ≡ (y ∷ ys)
cons-both e f = rw (e, f) refl

split-more : {X : Type 0} (x y d : X) (xs ys pre post : List X) → x ≡ y → ((inner : List X) × (xs ≡ pre ++ d ∷ inner)) ⊎ ((more : List X) × (pre ≡ xs ++ more) × (ys ≡ more ++ d ∷ post)) →
    ((inner : List X) × ((x ∷ xs) ≡ (y ∷ pre) ++ d ∷ inner)) ⊎ ((more : List X) × ((y ∷ pre) ≡ (x ∷ xs) ++ more) × (ys ≡ more ++ d ∷ post))
split-more x y d xs ys pre post e (inl a) = inl (a.0, cons-both e a.1)
split-more x y d xs ys pre post e (inr b) = inr (b.0, cons-both (sym e) b.1, b.2)

-- where d stands in the first list, or in the second
split : {X : Type 0} (xs ys pre : List X) (d : X) (post : List X) → (xs ++ ys) ≡ (pre ++ d ∷ post) → ((inner : List X) × (xs ≡ pre ++ d ∷ inner)) ⊎ ((more : List X) × (pre ≡ xs ++ more) × (ys ≡ more ++ d ∷ post))
split [] ys pre d post e = inr (pre, refl, e)
split (x ∷ xs) ys [] d post e = inl (xs, cons-both (cons-head x d (xs ++ ys) post e) refl)
split (x ∷ xs) ys (y ∷ pre) d post e = split-more x y d xs ys pre post (cons-head x y (xs ++ ys) (pre ++ d ∷ post) e) (split xs ys pre d post (cons-tail x y (xs ++ ys) (pre ++ d ∷ post) e))

filter-same : {X : Type 0} (p q : X → Bool) (xs : List X) → ((x : X) → In x xs → p x ≡ q x) → filter p xs ≡ filter q xs
filter-same p q [] s = refl
filter-same p q (x ∷ xs) s = let a = s x (inl refl) in let b = filter-same p q xs (λ y i. s y (inr i)) in rw (a, b) refl

any-false : (P : Problem) (D : Made) (m : RevisionId) → AllAttached P D m → (b : Bool) → list_any (is_open D) (attachments P m) ≡ b → list_any (is_open D) (attachments P m) ≡ false
any-false P D m all true e =
    let a = any-in (is_open D) (attachments P m) e in
    let f = map-in (attaching m) (matching P m) a.0 a.1 in
    absurd (made-not_open D (attaching m f.0) (all f.0 f.1) (subst (λ d. IsTrue (is_open D d)) f.2 a.2))
any-false P D m all false e = e

-- a host whose attachments are made has the same decisions due
pub due-same : (P : Problem) (D : Made) (d : Decision) (v : ℕ) → value_made D d ≡ None → (m : RevisionId) → AllAttached P D m → due_decisions P ((d, v) ∷ D) m ≡ due_decisions P D m
due-same P D d v n m all =
    let E : Made = (d, v) ∷ D in
    let here = any-false P D m all (list_any (is_open D) (attachments P m)) refl in
    let there = any-false P E m (λ f i. made-kept D d v (attaching m f) n (all f i)) (list_any (is_open E) (attachments P m)) refl in
    let fragments : fragments_of P E m ≡ fragments_of P D m = filter-same (λ f. is_yes (value_made E (attaching m f))) (λ f. is_yes (value_made D (attaching m f))) (matching P m)
    (λ f i. ap is_yes (value-kept D d v (attaching m f) (all f i).0 n (all f i).1 ∙ sym (all f i).1)) in
    let same : payload P E m ≡ payload P D m = ap (λ fs. flat_map (own_requirements P.world.known) (m ∷ fs)) fragments in
    ap (λ b. attachments P m ++ (if b then [] else flat_map (decisions_of P m) (in_turn P (payload P E m)))) there
    ∙ ap (λ qs. attachments P m ++ flat_map (decisions_of P m) (in_turn P qs)) same
    ∙ sym (ap (λ b. attachments P m ++ (if b then [] else flat_map (decisions_of P m) (in_turn P (payload P D m)))) here)

all-of : (P : Problem) (D : Made) (m : RevisionId) (pre : List Decision) → ((d : Decision) → In d (attachments P m) → In d pre) → ((d : Decision) → In d pre → IsMade D d) → AllAttached P D m
all-of P D m pre sub made f i = made (attaching m f) (sub (attaching m f) (in-map (attaching m) (matching P m) f i))

assoc : {X : Type 0} (pre inner more : List X) (d : X) → (pre ++ d ∷ inner) ++ more ≡ pre ++ d ∷ (inner ++ more)
assoc pre inner more d = append_assoc pre (d ∷ inner) more

due-step : (P : Problem) (D : Made) (d : Decision) (v : ℕ) → value_made D d ≡ None → (m : RevisionId) (pre post : List Decision) → due_decisions P D m ≡ pre ++ d ∷ post → ((e : Decision) → In e pre → IsMade D e) → (more : List Decision) × (due_decisions P ((d, v) ∷ D) m ≡ pre ++ d ∷ more)
due-step P D d v n m pre post e made = elim (split (attachments P m) (if list_any (is_open D) (attachments P m) then [] else flat_map (decisions_of P m) (in_turn P (payload P D m))) pre d post e) [
  | inl a ↦
      let B = if list_any (is_open ((d, v) ∷ D)) (attachments P m) then [] else flat_map (decisions_of P m) (in_turn P (payload P ((d, v) ∷ D) m)) in
      (a.0 ++ B, ap (λ xs. xs ++ B) a.1 ∙ assoc pre a.0 B d)
  | inr b ↦ (post, due-same P D d v n m (all-of P D m pre (λ x i. subst (In x) (sym b.1) (in-append_left (attachments P m) b.0 x i)) made) ∙ e)
]

due-whole : (P : Problem) (D : Made) (m : RevisionId) → ((d : Decision) → In d (due_decisions P D m) → IsMade D d) → AllAttached P D m
due-whole P D m made = all-of P D m (due_decisions P D m) (λ x i. in-append_left (attachments P m) (if list_any (is_open D) (attachments P m) then [] else flat_map (decisions_of P m) (in_turn P (payload P D m))) x i) made

no-split : {X : Type 0} (pre : List X) (d : X) (post : List X) → [] ≡ (pre ++ d ∷ post) → ⊥
no-split [] d post e = cc
no-split (x ∷ pre) d post e = cc

queue-step_go : (P : Problem) (D : Made) (d : Decision) (v : ℕ) → value_made D d ≡ None → (m : RevisionId) (ms new : List RevisionId) (pre post : List Decision) → ((e : Decision) → In e pre → IsMade D e) →
    ((more : List Decision) → flat_map (due_decisions P D) ms ≡ more ++ d ∷ post → ((e : Decision) → In e more → IsMade D e) → (after : List Decision) × (flat_map (due_decisions P ((d, v) ∷ D)) (ms ++ new) ≡ more ++ d ∷ after)) →
    ((inner : List Decision) × (due_decisions P D m ≡ pre ++ d ∷ inner)) ⊎ ((more : List Decision) × (pre ≡ due_decisions P D m ++ more) × (flat_map (due_decisions P D) ms ≡ more ++ d ∷ post)) →
    (more : List Decision) × (flat_map (due_decisions P ((d, v) ∷ D)) ((m ∷ ms) ++ new) ≡ pre ++ d ∷ more)
queue-step_go P D d v n m ms new pre post made rest (inl a) =
    let x = due-step P D d v n m pre a.0 a.1 made in
    let behind = flat_map (due_decisions P ((d, v) ∷ D)) (ms ++ new) in
    (x.0 ++ behind, ap (λ xs. xs ++ behind) x.1 ∙ assoc pre x.0 behind d)
queue-step_go P D d v n m ms new pre post made rest (inr b) =
    let same = due-same P D d v n m (due-whole P D m (λ x i. made x (subst (In x) (sym b.1) (in-append_left (due_decisions P D m) b.0 x i)))) in
    let x = rest b.0 b.2 (λ y i. made y (subst (In y) (sym b.1) (in-append_right (due_decisions P D m) b.0 y i))) in
    (x.0, ap₂ (λ xs ys. xs ++ ys) same x.1 ∙ sym (append_assoc (due_decisions P D m) b.0 (d ∷ x.0)) ∙ ap (λ xs. xs ++ d ∷ x.0) (sym b.1))

pub queue-step : (P : Problem) (D : Made) (d : Decision) (v : ℕ) → value_made D d ≡ None → (ms new : List RevisionId) (pre post : List Decision) → flat_map (due_decisions P D) ms ≡ pre ++ d ∷ post → ((e : Decision) → In e pre → IsMade D e) →
    (more : List Decision) × (flat_map (due_decisions P ((d, v) ∷ D)) (ms ++ new) ≡ pre ++ d ∷ more)
queue-step P D d v n [] new pre post e made = absurd (no-split pre d post e)
queue-step P D d v n (m ∷ ms) new pre post e made = queue-step_go P D d v n m ms new pre post made (λ more f k. queue-step P D d v n ms new more post f k) (split (due_decisions P D m) (flat_map (due_decisions P D) ms) pre d post e)

pull-go : (P : Problem) (b : Bool) (ms : List RevisionId) (x : RevisionId) → (new : List RevisionId) × ((if b then ms else ms ++ x ∷ []) ≡ ms ++ new)
pull-go P true ms x = ([], sym (append-nil ms))
pull-go P false ms x = (x ∷ [], refl)

pub pull_in-append : (P : Problem) (ms xs : List RevisionId) → (new : List RevisionId) × (pull_in P ms xs ≡ ms ++ new)
pull_in-append P ms [] = ([], sym (append-nil ms))
pull_in-append P ms (x ∷ xs) =
    let a = pull-go P (is_in_force P.world.wirings x || list_any (λ (k : RevisionId). k.0 == x.0) ms) ms x in
    let b = pull_in-append P (if is_in_force P.world.wirings x || list_any (λ (k : RevisionId). k.0 == x.0) ms then ms else ms ++ x ∷ []) xs in
    (a.0 ++ b.0, b.1 ∙ ap (λ l. l ++ b.0) a.1 ∙ append_assoc ms a.0 b.0)

-- ---- the queue

find-behind_go : (D : Made) (x : Decision) (o p : Option Decision) (b : Bool) → IsMade D x → is_open D x ≡ b → o ≡ p → cond (is_open D x) (Some x) o ≡ p
find-behind_go D x o p true m e f = absurd (made-not_open D x m e)
find-behind_go D x o p false m e f = ap (λ b. cond b (Some x) o) e ∙ f

find-behind : (D : Made) (xs ys : List Decision) → ((d : Decision) → In d xs → IsMade D d) → find (is_open D) (xs ++ ys) ≡ find (is_open D) ys
find-behind D [] ys made = refl
find-behind D (x ∷ xs) ys made = find-behind_go D x (find (is_open D) (xs ++ ys)) (find (is_open D) ys) (is_open D x) (made x (inl refl)) refl (find-behind D xs ys (λ d i. made d (inr i)))

first-open : (D : Made) (rest : List Decision) (d : Decision) → ((e : Decision) → In e rest → value_made D e ≡ None) → find (is_open D) rest ≡ Some d → (more : List Decision) × (rest ≡ d ∷ more)
first-open D [] d open' e = cc
first-open D (x ∷ xs) d open' e =
    let here : is_open D x ≡ true = ap Rattle.std.specs.Prelude.is_none (open' x (inl refl)) in
    let same = some-inj x d (sym (ap (λ b. cond b (Some x) (find (is_open D) xs)) here) ∙ e) in
    (xs, cons-both same refl)

two-in : {X : Type 0} (xs ys : List X) (x : X) → In x xs → In x ys → Two ◌≡◌ (xs ++ ys)
two-in [] ys x i j = elim i [ ]
two-in (z ∷ xs) ys x (inl e) j = inl (x, in-append_right xs ys x j, sym e)
two-in (z ∷ xs) ys x (inr i) j = inr (two-in xs ys x i j)

open-or-made : (D : Made) (d : Decision) → (value_made D d ≡ None) ⊎ IsMade D d
open-or-made D d = elim (true-or-false (is_open D d)) [ inl t ↦ inl (open-none D d t) | inr f ↦ inr (not-open_made D d (λ t. cc)) ]

rest-open : (P : Problem) → IsProblem P → (D : Made) (rest : List Decision) → queue P D ≡ in_order D ++ rest → (d : Decision) → In d rest → value_made D d ≡ None
rest-open P L D rest e d i = elim (open-or-made D d) [
  | inl n ↦ n
  | inr m ↦ absurd (queue-once P L D (subst (Two ◌≡◌) (sym e) (two-in (in_order D) rest d (made-in_order D d m) i)))
]

-- the decisions that are made are the first of the queue, in their order
pub queued : (P : Problem) → IsProblem P → (D : Made) → State P D → IsQueued P D
queued P L _ start = record { rest = queue P []; is = refl; open_rest = λ d i. refl }
queued P L _ (step {D = D} {d = d} {v = v} s n r) =
    let q = queued P L D s in
    let x = next-due P D d n in
    let behind : find (is_open D) q.rest ≡ Some d = sym (find-behind D (in_order D) q.rest (in_order-made D)) ∙ ap (find (is_open D)) (sym q.is) ∙ n in
    let first = first-open D q.rest d q.open_rest behind in
    let new = pull_in-append P (members P D) (pulled P d v) in
    let grown = queue-step P D d v x.3 (members P D) new.0 (in_order D) first.0 (q.is ∙ ap (λ l. in_order D ++ l) first.1) (in_order-made D) in
    let is : queue P ((d, v) ∷ D) ≡ in_order ((d, v) ∷ D) ++ grown.0 = ap (flat_map (due_decisions P ((d, v) ∷ D))) new.1 ∙ grown.1 ∙ sym (append_assoc (in_order D) (d ∷ []) grown.0) in
    record { rest = grown.0; is = is; open_rest = rest-open P L ((d, v) ∷ D) grown.0 is }

-- so the next decision is the first after them
pub next-queued : (P : Problem) (D : Made) (q : IsQueued P D) → next_decision P D ≡ find (is_open D) q.rest
next-queued P D q = ap (find (is_open D)) q.is ∙ find-behind D (in_order D) q.rest (in_order-made D)
