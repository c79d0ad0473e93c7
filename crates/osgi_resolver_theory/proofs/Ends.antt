-- Words end: each decision is one of a list that is fixed by the problem, and each step makes one that was open.
use Rattle.std.proofs.Common.{◌≡◌, ℕ, zero, suc, ◌<◌, ◌≤◌, ◌⊎◌, inl, inr, Bool, true, false, cond, IsTrue, is_none, List, [], ◌∷◌, ◌++◌, length, map, filter, flat_map, Option, None, Some, refl, sym, ◌∙◌, ap, subst, arith}
use Rattle.osgi_base.specs.declared.ids.RevisionId.{RevisionId}
use Rattle.osgi_world.specs.Candidates.{IsProblem, candidates, matching}
use Rattle.osgi_world.specs.Consistency.{Extends}
use Rattle.osgi_world.specs.Decisions.{Decision, Made, arity, attaching, choose, is_open, pick, value_made}
use Rattle.osgi_world.specs.DueDecisions.{attachments, fragments_of, next_decision, payload}
use Rattle.osgi_world.specs.Lists.{In}
use Rattle.osgi_world.specs.Payloads.{own_requirements}
use Rattle.osgi_world.specs.declared.problem.Problem.{Problem}
use Rattle.osgi_world.specs.declared.wiring.ReqRef.{ReqRef}
use Rattle.osgi_world.specs.declared.wiring.Wiring.{Wiring}
use Rattle.osgi_resolver_theory.proofs.Follow.{Follows, follows-next, follows-start}
use Rattle.osgi_resolver_theory.proofs.Laws.{laws, revisions_of}
use Rattle.osgi_resolver_theory.proofs.Lists.{in-append_left, in-append_right, in-flat_map, in-map}
use Rattle.osgi_resolver_theory.proofs.States.{in-own, IsDue, attaches, chooses, fragments-in, member-current, next-due, payload-in, picks}
use Rattle.osgi_resolver_theory.proofs.Values.{made-not_open, not-open_made, value-head, value-kept}
use Rattle.osgi_resolver_theory.specs.States.{State, start, step}

-- the decisions that a revision can have
abbrev pub all_for : Problem → RevisionId → ReqRef → List Decision
all_for P m q = choose m q ∷ map (pick m q) (candidates P q)

abbrev pub all_of : Problem → RevisionId → List Decision
all_of P m = attachments P m ++ flat_map (all_for P m) (flat_map (own_requirements P.world.known) (m ∷ matching P m))

abbrev pub all_decisions : Problem → List Decision
all_decisions P = flat_map (all_of P) (revisions_of P.world.known)

-- how many of them are open
abbrev pub open_count : Problem → Made → ℕ
open_count P D = length (filter (is_open D) (all_decisions P))

owner-of : (P : Problem) (D : Made) (m o : RevisionId) → (o ≡ m) ⊎ In o (fragments_of P D m) → In o (m ∷ matching P m)
owner-of P D m o (inl e) = inl e
owner-of P D m o (inr i) = inr (fragments-in P D m o i).0

for-all : (P : Problem) (D : Made) (m : RevisionId) (q : ReqRef) (d : Decision) → In q (payload P D m) → In d (all_for P m q) → In d (all_of P m)
for-all P D m q d i j =
    let o = payload-in P D m q i in
    in-append_right (attachments P m) (flat_map (all_for P m) (flat_map (own_requirements P.world.known) (m ∷ matching P m))) d
    (in-flat_map (all_for P m) (flat_map (own_requirements P.world.known) (m ∷ matching P m)) q d (in-flat_map (own_requirements P.world.known) (m ∷ matching P m) q.owner q (owner-of P D m q.owner o.0) (in-own P q.owner q refl o.1)) j)

due-all : (P : Problem) (D : Made) (m : RevisionId) (d : Decision) → IsDue P D m d → In d (all_of P m)
due-all P D m d (attaches f i e) = subst (λ x. In x (all_of P m)) (sym e) (in-append_left (attachments P m) (flat_map (all_for P m) (flat_map (own_requirements P.world.known) (m ∷ matching P m))) (attaching m f) (in-map (attaching m) (matching P m) f i))
due-all P D m d (chooses q i eff all k e) = for-all P D m q d i (inl e)
due-all P D m d (picks q c i eff all k j e) = for-all P D m q d i (inr (subst (λ x. In x (map (pick m q) (candidates P q))) (sym e) (in-map (pick m q) (candidates P q) c j)))

pub next-all : (P : Problem) → IsProblem P → (D : Made) → State P D → (d : Decision) → next_decision P D ≡ Some d → In d (all_decisions P)
next-all P L D s d n =
    let x = next-due P D d n in
    in-flat_map (all_of P) (revisions_of P.world.known) x.0 d ((laws P L).revisions_are x.0 (member-current P L D s x.0 x.1).0) (due-all P D x.0 d x.2)

-- ---- a filter that keeps less

not-more : {X : Type 0} (z : X) (xs ys : List X) (b c : Bool) → (IsTrue b → IsTrue c) → length xs ≤ length ys → length (cond b (z ∷ xs) xs) ≤ length (cond c (z ∷ ys) ys)
not-more z xs ys true true up h = omega (arith, h)
not-more z xs ys true false up h = let f : false ≡ true = up refl in cc
not-more z xs ys false true up h = omega (arith, h)
not-more z xs ys false false up h = h

pub filter-not_more : {X : Type 0} (p q : X → Bool) → ((x : X) → IsTrue (p x) → IsTrue (q x)) → (xs : List X) → length (filter p xs) ≤ length (filter q xs)
filter-not_more p q up [] = omega arith
filter-not_more p q up (z ∷ xs) = not-more z (filter p xs) (filter q xs) (p z) (q z) (up z) (filter-not_more p q up xs)

less-here : {X : Type 0} (z : X) (xs ys : List X) (b c : Bool) → b ≡ false → c ≡ true → length xs ≤ length ys → length (cond b (z ∷ xs) xs) < length (cond c (z ∷ ys) ys)
less-here z xs ys true true e f h = cc
less-here z xs ys true false e f h = cc
less-here z xs ys false true e f h = omega (arith, h)
less-here z xs ys false false e f h = cc

less-later : {X : Type 0} (z : X) (xs ys : List X) (b c : Bool) → (IsTrue b → IsTrue c) → length xs < length ys → length (cond b (z ∷ xs) xs) < length (cond c (z ∷ ys) ys)
less-later z xs ys true true up h = omega (arith, h)
less-later z xs ys true false up h = let f : false ≡ true = up refl in cc
less-later z xs ys false true up h = omega (arith, h)
less-later z xs ys false false up h = h

less-go : {X : Type 0} (p q : X → Bool) → ((x : X) → IsTrue (p x) → IsTrue (q x)) → (z : X) (xs : List X) (x : X) → (x ≡ z) ⊎ In x xs → p x ≡ false → q x ≡ true → (In x xs → length (filter p xs) < length (filter q xs)) → length (filter p (z ∷ xs)) < length (filter q (z ∷ xs))
less-go p q up z xs x (inl e) f t rest = less-here z (filter p xs) (filter q xs) (p z) (q z) (ap p (sym e) ∙ f) (ap q (sym e) ∙ t) (filter-not_more p q up xs)
less-go p q up z xs x (inr i) f t rest = less-later z (filter p xs) (filter q xs) (p z) (q z) (up z) (rest i)

pub filter-less : {X : Type 0} (p q : X → Bool) → ((x : X) → IsTrue (p x) → IsTrue (q x)) → (xs : List X) (x : X) → In x xs → p x ≡ false → q x ≡ true → length (filter p xs) < length (filter q xs)
filter-less p q up [] x i f t = elim i [ ]
filter-less p q up (z ∷ xs) x i f t = less-go p q up z xs x i f t (λ j. filter-less p q up xs x j f t)

-- ---- each step makes one

open-was_go : (D : Made) (d : Decision) (v : ℕ) (e : Decision) → value_made D d ≡ None → IsTrue (is_open ((d, v) ∷ D) e) → (b : Bool) → is_open D e ≡ b → IsTrue (is_open D e)
open-was_go D d v e n t true s = s
open-was_go D d v e n t false s =
    let m = not-open_made D e (λ u. cc) in
    absurd (made-not_open ((d, v) ∷ D) e (m.0, value-kept D d v e m.0 n m.1) t)

open-head : (D : Made) (d : Decision) (v : ℕ) → (b : Bool) → is_open ((d, v) ∷ D) d ≡ b → is_open ((d, v) ∷ D) d ≡ false
open-head D d v true e = absurd (made-not_open ((d, v) ∷ D) d (v, value-head D d v) e)
open-head D d v false e = e

pub open-falls : (P : Problem) → IsProblem P → (D : Made) → State P D → (d : Decision) (v : ℕ) → next_decision P D ≡ Some d → open_count P ((d, v) ∷ D) < open_count P D
open-falls P L D s d v n =
    let x = next-due P D d n in
    filter-less (is_open ((d, v) ∷ D)) (is_open D) (λ e t. open-was_go D d v e x.3 t (is_open D e) refl) (all_decisions P) d (next-all P L D s d n) (open-head D d v (is_open ((d, v) ∷ D) d) refl) (ap is_none x.3)

-- ---- a word that follows V goes on to its end

pub record Ended (P : Problem) (V : List Wiring) : Type 0 where
  pub made : Made
  pub state : State P made
  pub follows : Follows P V made
  pub complete : next_decision P made ≡ None

follow-go : (P : Problem) → IsProblem P → (V : List Wiring) → Extends P.world.known P.world.wirings V P.root → (D : Made) → State P D → Follows P V D → (n : ℕ) → open_count P D ≤ n → (o : Option Decision) → next_decision P D ≡ o →
    ((d : Decision) (v : ℕ) → next_decision P D ≡ Some d → v < arity P d → Follows P V ((d, v) ∷ D) → Ended P V) → Ended P V
follow-go P L V x D s f n h None e onward = record { made = D; state = s; follows = f; complete = e }
follow-go P L V x D s f n h (Some d) e onward = let m = follows-next P L V x D f d e in onward d m.0 e m.1 m.2

pub follow-to_end : (P : Problem) → IsProblem P → (V : List Wiring) → Extends P.world.known P.world.wirings V P.root → (n : ℕ) (D : Made) → State P D → Follows P V D → open_count P D ≤ n → Ended P V
follow-to_end P L V x zero D s f h = follow-go P L V x D s f zero h (next_decision P D) refl (λ d v e r g. let l = open-falls P L D s d v e in absurd (omega (arith, l, h)))
follow-to_end P L V x (suc n) D s f h = follow-go P L V x D s f (suc n) h (next_decision P D) refl (λ d v e r g. let l = open-falls P L D s d v e in follow-to_end P L V x n ((d, v) ∷ D) (step s e r) g (omega (arith, l, h)))

-- wirings that extend the present ones are followed by a complete word
pub followed : (P : Problem) → IsProblem P → (V : List Wiring) → Extends P.world.known P.world.wirings V P.root → Ended P V
followed P L V x = follow-to_end P L V x (open_count P []) [] start (follows-start P V) (omega arith)
