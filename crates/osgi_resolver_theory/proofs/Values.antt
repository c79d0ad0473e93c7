-- The values of the decisions that are made.
use Rattle.std.proofs.Common.{◌≡◌, ◌≢◌, ℕ, zero, suc, ◌==◌, ◌⊎◌, inl, inr, Bool, true, false, ◌&&◌, cond, IsTrue, is_none, if◌then◌else◌, List, [], ◌∷◌, find, Option, None, Some, refl, sym, ◌∙◌, ap, ap₂, subst, arith}
use Rattle.osgi_base.specs.declared.ids.RevisionId.{RevisionId}
use Rattle.osgi_world.specs.Candidates.{same_place}
use Rattle.osgi_world.specs.Decisions.{Decision, IsMade, Made, attaching, choose, is_open, is_yes, pick, same_decision, same_capability, value_made}
use Rattle.osgi_world.specs.Lists.{In}
use Rattle.osgi_world.specs.declared.wiring.CapRef.{CapRef}
use Rattle.osgi_world.specs.declared.wiring.ReqRef.{ReqRef}
use Rattle.osgi_resolver_theory.proofs.Lists.{and-both, and-cases}

pub nat-eq : (a b : ℕ) → IsTrue (a == b) → a ≡ b
nat-eq a b t = grind (arith, t)

pub nat-same : (a b : ℕ) → a ≡ b → IsTrue (a == b)
nat-same a b e = grind (arith, e)

pub nat-dec : (a b : ℕ) → (a ≡ b) ⊎ (a ≢ b)
nat-dec a b = grind arith

-- the same_decision of revisions
pub rev-eq : (r s : RevisionId) → IsTrue (r.0 == s.0) → r ≡ s
rev-eq r s t = ap (λ n. record { 0 = n }) (nat-eq r.0 s.0 t)

pub rev-same : (r s : RevisionId) → r ≡ s → IsTrue (r.0 == s.0)
rev-same r s e = nat-same r.0 s.0 (ap (λ (x : RevisionId). x.0) e)

pub rev-dec : (r s : RevisionId) → (r ≡ s) ⊎ (r ≢ s)
rev-dec r s = elim (nat-dec r.0 s.0) [ inl e ↦ inl (ap (λ n. record { 0 = n }) e) | inr n ↦ inr (λ e. n (ap (λ (x : RevisionId). x.0) e)) ]

pub some-inj : {X : Type 0} (x y : X) → Some x ≡ Some y → x ≡ y
some-inj x y e = cc

pub ref-eq : (q n : ReqRef) → q.owner ≡ n.owner → q.index ≡ n.index → q ≡ n
ref-eq q n e f = ap₂ (λ a b. record { owner = a; index = b }) e f

pub cap-eq : (c d : CapRef) → c.provider ≡ d.provider → c.owner ≡ d.owner → c.index ≡ d.index → c ≡ d
cap-eq c d e f g = ap₂ (λ a (b : ReqRef). record { provider = a; owner = b.owner; index = b.index }) e (ref-eq (record { owner = c.owner; index = c.index }) (record { owner = d.owner; index = d.index }) f g)

pub place-eq : (q n : ReqRef) → IsTrue (same_place q n) → q ≡ n
place-eq q n t = let b = and-cases (q.owner.0 == n.owner.0) (q.index == n.index) t in ref-eq q n (rev-eq q.owner n.owner b.0) (nat-eq q.index n.index b.1)

place-refl : (q : ReqRef) → IsTrue (same_place q q)
place-refl q = and-both (q.owner.0 == q.owner.0) (q.index == q.index) (rev-same q.owner q.owner refl) (nat-same q.index q.index refl)

capability-eq : (c d : CapRef) → IsTrue (same_capability c d) → c ≡ d
capability-eq c d t =
    let a = and-cases (c.provider.0 == d.provider.0) ((c.owner.0 == d.owner.0) && (c.index == d.index)) t in
    let b = and-cases (c.owner.0 == d.owner.0) (c.index == d.index) a.1 in
    cap-eq c d (rev-eq c.provider d.provider a.0) (rev-eq c.owner d.owner b.0) (nat-eq c.index d.index b.1)

capability-refl : (c : CapRef) → IsTrue (same_capability c c)
capability-refl c = and-both (c.provider.0 == c.provider.0) ((c.owner.0 == c.owner.0) && (c.index == c.index)) (rev-same c.provider c.provider refl) (and-both (c.owner.0 == c.owner.0) (c.index == c.index) (rev-same c.owner c.owner refl) (nat-same c.index c.index refl))

pick-eq : (h k : RevisionId) (q n : ReqRef) (c d : CapRef) → h ≡ k → q ≡ n → c ≡ d → pick h q c ≡ pick k n d
pick-eq h k q n c d e f g = ap (λ x. pick x q c) e ∙ ap (λ x. pick k x c) f ∙ ap (pick k n) g

pub same-eq : (d e : Decision) → IsTrue (same_decision d e) → d ≡ e
same-eq (attaching h f) (attaching k g) t = let b = and-cases (h.0 == k.0) (f.0 == g.0) t in ap₂ attaching (rev-eq h k b.0) (rev-eq f g b.1)
same-eq (attaching h f) (choose k n) t = cc
same-eq (attaching h f) (pick k n d) t = cc
same-eq (choose h q) (attaching k g) t = cc
same-eq (choose h q) (choose k n) t = let b = and-cases (h.0 == k.0) (same_place q n) t in ap₂ choose (rev-eq h k b.0) (place-eq q n b.1)
same-eq (choose h q) (pick k n d) t = cc
same-eq (pick h q c) (attaching k g) t = cc
same-eq (pick h q c) (choose k n) t = cc
same-eq (pick h q c) (pick k n d) t =
    let a = and-cases (h.0 == k.0) (same_place q n && same_capability c d) t in
    let b = and-cases (same_place q n) (same_capability c d) a.1 in
    pick-eq h k q n c d (rev-eq h k a.0) (place-eq q n b.0) (capability-eq c d b.1)

pub same-refl : (d : Decision) → IsTrue (same_decision d d)
same-refl (attaching h f) = and-both (h.0 == h.0) (f.0 == f.0) (rev-same h h refl) (rev-same f f refl)
same-refl (choose h q) = and-both (h.0 == h.0) (same_place q q) (rev-same h h refl) (place-refl q)
same-refl (pick h q c) = and-both (h.0 == h.0) (same_place q q && same_capability c c) (rev-same h h refl) (and-both (same_place q q) (same_capability c c) (place-refl q) (capability-refl c))

-- ---- one decision more

head-go : (b : Bool) (v : ℕ) (o : Option ℕ) → b ≡ true → (if b then Some v else o) ≡ Some v
head-go true v o t = refl
head-go false v o t = cc

pub value-head : (D : Made) (d : Decision) (v : ℕ) → value_made ((d, v) ∷ D) d ≡ Some v
value-head D d v = head-go (same_decision d d) v (value_made D d) (same-refl d)

cases-go : (b : Bool) (d e : Decision) (v w : ℕ) (o : Option ℕ) → same_decision d e ≡ b → (if b then Some v else o) ≡ Some w → (e ≡ d) × (w ≡ v) ⊎ (o ≡ Some w)
cases-go true d e v w o t h = inl (sym (same-eq d e t), sym (some-inj v w h))
cases-go false d e v w o t h = inr h

pub value-cases : (D : Made) (d : Decision) (v : ℕ) (e : Decision) (w : ℕ) → value_made ((d, v) ∷ D) e ≡ Some w → (e ≡ d) × (w ≡ v) ⊎ (value_made D e ≡ Some w)
value-cases D d v e w h = cases-go (same_decision d e) d e v w (value_made D e) refl h

none-some : {X : Type 0} {x : X} (o : Option X) → o ≡ None → o ≡ Some x → ⊥
none-some o e f = cc

kept-go : (b : Bool) (D : Made) (d e : Decision) (v w : ℕ) → same_decision d e ≡ b → value_made D d ≡ None → value_made D e ≡ Some w → (if b then Some v else value_made D e) ≡ Some w
kept-go true D d e v w t n h = absurd (none-some (value_made D d) n (ap (value_made D) (same-eq d e t) ∙ h))
kept-go false D d e v w t n h = h

-- what is made stays made
pub value-kept : (D : Made) (d : Decision) (v : ℕ) (e : Decision) (w : ℕ) → value_made D d ≡ None → value_made D e ≡ Some w → value_made ((d, v) ∷ D) e ≡ Some w
value-kept D d v e w n h = kept-go (same_decision d e) D d e v w refl n h

pub made-kept : (D : Made) (d : Decision) (v : ℕ) (e : Decision) → value_made D d ≡ None → IsMade D e → IsMade ((d, v) ∷ D) e
made-kept D d v e n m = (m.0, value-kept D d v e m.0 n m.1)

-- ---- open and made

open-go : (o : Option ℕ) → IsTrue (is_none o) → o ≡ None
open-go None t = refl
open-go (Some v) t = cc

pub open-none : (D : Made) (d : Decision) → IsTrue (is_open D d) → value_made D d ≡ None
open-none D d t = open-go (value_made D d) t

closed-go : (o : Option ℕ) → ¬ IsTrue (is_none o) → (v : ℕ) × (o ≡ Some v)
closed-go None t = absurd (t refl)
closed-go (Some v) t = (v, refl)

pub not-open_made : (D : Made) (d : Decision) → ¬ IsTrue (is_open D d) → IsMade D d
not-open_made D d t = closed-go (value_made D d) t

pub made-not_open : (D : Made) (d : Decision) → IsMade D d → ¬ IsTrue (is_open D d)
made-not_open D d m t = none-some (value_made D d) (open-none D d t) m.1

yes-go : (o : Option ℕ) → IsTrue (is_yes o) → o ≡ Some 0
yes-go None t = cc
yes-go (Some zero) t = refl
yes-go (Some (suc v)) t = cc

pub yes-some : (o : Option ℕ) → IsTrue (is_yes o) → o ≡ Some 0
yes-some o t = yes-go o t

pub some-yes : (o : Option ℕ) → o ≡ Some 0 → IsTrue (is_yes o)
some-yes o e = ap is_yes e

-- ---- the next decision

find-some_go : {X : Type 0} (p : X → Bool) (z : X) (xs : List X) (b : Bool) (x : X) → p z ≡ b → (find p xs ≡ Some x → In x xs × IsTrue (p x)) → cond b (Some z) (find p xs) ≡ Some x → In x (z ∷ xs) × IsTrue (p x)
find-some_go p z xs true x e rest h = let same_decision : z ≡ x = some-inj z x h in (inl (sym same_decision), subst (λ y. IsTrue (p y)) same_decision e)
find-some_go p z xs false x e rest h = let r = rest h in (inr r.0, r.1)

pub find-some : {X : Type 0} (p : X → Bool) (xs : List X) (x : X) → find p xs ≡ Some x → In x xs × IsTrue (p x)
find-some p [] x h = cc
find-some p (z ∷ xs) x h = find-some_go p z xs (p z) x refl (find-some p xs x) h

find-none_go : {X : Type 0} (p : X → Bool) (z : X) (xs : List X) (b : Bool) (x : X) → p z ≡ b → (find p xs ≡ None → In x xs → ¬ IsTrue (p x)) → cond b (Some z) (find p xs) ≡ None → (x ≡ z) ⊎ In x xs → ¬ IsTrue (p x)
find-none_go p z xs true x e rest h i = cc
find-none_go p z xs false x e rest h (inl same_decision) = λ t. let f : p x ≡ false = ap p same_decision ∙ e in cc
find-none_go p z xs false x e rest h (inr i) = rest h i

pub find-none : {X : Type 0} (p : X → Bool) (xs : List X) (x : X) → find p xs ≡ None → In x xs → ¬ IsTrue (p x)
find-none p [] x h i = elim i [ ]
find-none p (z ∷ xs) x h i = find-none_go p z xs (p z) x refl (find-none p xs x) h i
