-- Lists in a total order; and what comes first in the order of preference is preferred.
use Rattle.std.proofs.Common.{◌≡◌, ℕ, ◌<◌, ◌⊎◌, ◌↔◌, inl, inr, Bool, true, false, IsTrue, List, [], ◌∷◌, refl, sym, ◌∙◌, ap, subst}
use Rattle.std.specs.Cmp.{IsTotalOrder, bool_cmp_total}
use Rattle.std.specs.Ordering.{bool_cmp, is_gt, match_ordering, nat_cmp, ordering_reverse, ordering_then}
use Rattle.std.specs.declared.cmp.Ordering.{Ordering}
use Rattle.std.specs.declared.cmp.Ordering.TheVariants.{Less, Equal, Greater}
use Rattle.std.proofs.lemmas.Cmp.{back_total, nat_cmp_total, on_total, ranked, then_total}
use Rattle.osgi_base.specs.declared.ids.RevisionId.{RevisionId}
use Rattle.osgi_version.specs.VersionValues.{order}
use Rattle.osgi_version.specs.Versions.{Parts}
use Rattle.osgi_world.specs.Candidates.{AreOrdered, IsPreferred, is_higher, preference_version}
use Rattle.osgi_world.specs.DueDecisions.{is_in_force}
use Rattle.osgi_world.specs.Lists.{In, Two}
use Rattle.osgi_world.specs.Lookups.{bundle_of, is_current}
use Rattle.osgi_world.specs.Wirings.{InForce}
use Rattle.osgi_world.specs.declared.problem.Problem.{Problem}
use Rattle.osgi_world.specs.declared.wiring.CapRef.{CapRef}
use Rattle.osgi_world.specs.declared.wiring.Wiring.{Wiring}
use Rattle.osgi_world.specs.declared.world.Known.{Known}
use Rattle.osgi_resolver_theory.proofs.Laws.{order_total}
use Rattle.osgi_resolver_theory.proofs.Values.{cap-eq}
use Rattle.osgi_resolver_theory.specs.WorldProblems.{in_order_of, preference, put_in}
use Rattle.osgi_resolver_theory.proofs.Tests.{force_decides}

-- ---- lists in order

-- each item is before those that stand later
abbrev pub IsInOrder : {X : Type 0} → (X → X → Ordering) → List X → Type 0
IsInOrder cmp [] = Unit {0}
IsInOrder {X = X} cmp (x ∷ xs) = ((y : X) → In y xs → cmp x y ≡ Less) × IsInOrder cmp xs

put-cases_go : {X : Type 0} (r : Ordering) (x y z : X) (ys ps : List X) → In z (match_ordering r (x ∷ y ∷ ys) (y ∷ ys) (y ∷ ps)) → (In z ps → (z ≡ x) ⊎ In z ys) → (z ≡ x) ⊎ In z (y ∷ ys)
put-cases_go Less x y z ys ps i rest = i
put-cases_go Equal x y z ys ps i rest = inr i
put-cases_go Greater x y z ys ps (inl e) rest = inr (inl e)
put-cases_go Greater x y z ys ps (inr i) rest = elim (rest i) [ inl e ↦ inl e | inr j ↦ inr (inr j) ]

put-cases : {X : Type 0} (cmp : X → X → Ordering) (x z : X) (xs : List X) → In z (put_in cmp x xs) → (z ≡ x) ⊎ In z xs
put-cases cmp x z [] i = i
put-cases cmp x z (y ∷ ys) i = put-cases_go (cmp x y) x y z ys (put_in cmp x ys) i (put-cases cmp x z ys)

put-ordered_go : {X : Type 0} (cmp : X → X → Ordering) (o : IsTotalOrder cmp) (x y : X) (ys : List X) (r : Ordering) → cmp x y ≡ r → IsInOrder cmp (y ∷ ys) → IsInOrder cmp (put_in cmp x ys) →
    IsInOrder cmp (match_ordering r (x ∷ y ∷ ys) (y ∷ ys) (y ∷ put_in cmp x ys))
put-ordered_go cmp o x y ys Less e s p = ((λ z i. elim i [ inl f ↦ subst (λ u. cmp x u ≡ Less) (sym f) e | inr j ↦ o.trans x y z e (s.0 z j) ]), s)
put-ordered_go cmp o x y ys Equal e s p = s
put-ordered_go cmp o x y ys Greater e s p = ((λ z i. elim (put-cases cmp x z ys i) [ inl f ↦ subst (λ u. cmp y u ≡ Less) (sym f) (o.antisymm y x ∙ ap ordering_reverse e) | inr j ↦ s.0 z j ]), p)

put-ordered : {X : Type 0} (cmp : X → X → Ordering) (o : IsTotalOrder cmp) (x : X) (xs : List X) → IsInOrder cmp xs → IsInOrder cmp (put_in cmp x xs)
put-ordered cmp o x [] s = ((λ y i. elim i [ ]), tt)
put-ordered cmp o x (y ∷ ys) s = put-ordered_go cmp o x y ys (cmp x y) refl s (put-ordered cmp o x ys s.1)

in-put_go : {X : Type 0} (r : Ordering) (x y z : X) (ys ps : List X) → (r ≡ Equal → x ≡ y) → (z ≡ x) ⊎ ((z ≡ y) ⊎ In z ys) → ((z ≡ x) ⊎ In z ys → In z ps) → In z (match_ordering r (x ∷ y ∷ ys) (y ∷ ys) (y ∷ ps))
in-put_go Less x y z ys ps same i rest = i
in-put_go Equal x y z ys ps same (inl e) rest = inl (e ∙ same refl)
in-put_go Equal x y z ys ps same (inr i) rest = i
in-put_go Greater x y z ys ps same (inl e) rest = inr (rest (inl e))
in-put_go Greater x y z ys ps same (inr (inl e)) rest = inl e
in-put_go Greater x y z ys ps same (inr (inr i)) rest = inr (rest (inr i))

in-put : {X : Type 0} (cmp : X → X → Ordering) (x z : X) (xs : List X) → ((y : X) → In y xs → cmp x y ≡ Equal → x ≡ y) → (z ≡ x) ⊎ In z xs → In z (put_in cmp x xs)
in-put cmp x z [] same i = i
in-put cmp x z (y ∷ ys) same i = in-put_go (cmp x y) x y z ys (put_in cmp x ys) (same y (inl refl)) i (in-put cmp x z ys (λ u j. same u (inr j)))

pub all-ordered : {X : Type 0} (cmp : X → X → Ordering) (o : IsTotalOrder cmp) (xs : List X) → IsInOrder cmp (in_order_of cmp xs)
all-ordered cmp o [] = tt
all-ordered cmp o (x ∷ xs) = put-ordered cmp o x (in_order_of cmp xs) (all-ordered cmp o xs)

ordered-or : {X : Type 0} (x z : X) (xs : List X) (ys : List X) → (z ≡ x) ⊎ In z ys → (In z ys → In z xs) → (z ≡ x) ⊎ In z xs
ordered-or x z xs ys (inl e) rest = inl e
ordered-or x z xs ys (inr i) rest = inr (rest i)

pub ordered-in : {X : Type 0} (cmp : X → X → Ordering) (z : X) (xs : List X) → In z (in_order_of cmp xs) → In z xs
ordered-in cmp z [] i = i
ordered-in cmp z (x ∷ xs) i = ordered-or x z xs (in_order_of cmp xs) (put-cases cmp x z (in_order_of cmp xs) i) (ordered-in cmp z xs)

-- where equal items are the same, none is left out
pub in-ordered : {X : Type 0} (cmp : X → X → Ordering) (z : X) (xs : List X) → ((x y : X) → In x xs → In y xs → cmp x y ≡ Equal → x ≡ y) → In z xs → In z (in_order_of cmp xs)
in-ordered cmp z [] same i = i
in-ordered cmp z (x ∷ xs) same i =
    in-put cmp x z (in_order_of cmp xs) (λ y j. same x y (inl refl) (inr (ordered-in cmp y xs j)))
    (ordered-or x z (in_order_of cmp xs) xs i (in-ordered cmp z xs (λ a b j k. same a b (inr j) (inr k))))

-- no two stand otherwise than the order says
pub ordered-two : {X : Type 0} (cmp : X → X → Ordering) (R : X → X → Type 0) (xs : List X) → IsInOrder cmp xs → ((x y : X) → In x xs → In y xs → cmp x y ≡ Less → R x y) → ¬ Two (λ x y. ¬ R x y) xs
ordered-two cmp R [] s f t = elim t [ ]
ordered-two cmp R (x ∷ xs) s f (inl h) = h.2 (f x h.0 (inl refl) (inr h.1) (s.0 h.0 h.1))
ordered-two cmp R (x ∷ xs) s f (inr t) = ordered-two cmp R xs s.1 (λ a b i j. f a b (inr i) (inr j)) t

-- ---- orders one after another

five-less : (a b c d e : Ordering) → ordering_then a (ordering_then b (ordering_then c (ordering_then d e))) ≡ Less →
    (a ≡ Less) ⊎ ((a ≡ Equal) × ((b ≡ Less) ⊎ ((b ≡ Equal) × ((c ≡ Less) ⊎ ((c ≡ Equal) × ((d ≡ Less) ⊎ ((d ≡ Equal) × (e ≡ Less))))))))
five-less Less b c d e t = inl refl
five-less Equal Less c d e t = inr (refl, inl refl)
five-less Equal Equal Less d e t = inr (refl, inr (refl, inl refl))
five-less Equal Equal Equal Less e t = inr (refl, inr (refl, inr (refl, inl refl)))
five-less Equal Equal Equal Equal e t = inr (refl, inr (refl, inr (refl, inr (refl, t))))
five-less Equal Equal Equal Greater e t = cc
five-less Equal Equal Greater d e t = cc
five-less Equal Greater c d e t = cc
five-less Greater b c d e t = cc

five-equal : (a b c d e : Ordering) → ordering_then a (ordering_then b (ordering_then c (ordering_then d e))) ≡ Equal → (c ≡ Equal) × (d ≡ Equal) × (e ≡ Equal)
five-equal Less b c d e t = cc
five-equal Equal Less c d e t = cc
five-equal Equal Equal Less d e t = cc
five-equal Equal Equal Equal Less e t = cc
five-equal Equal Equal Equal Equal e t = (refl, refl, t)
five-equal Equal Equal Equal Greater e t = cc
five-equal Equal Equal Greater d e t = cc
five-equal Equal Greater c d e t = cc
five-equal Greater b c d e t = cc

-- ---- single keys

bools-less : (a b : Bool) → bool_cmp a b ≡ Less → (a ≡ false) × (b ≡ true)
bools-less false false e = cc
bools-less false true e = (refl, refl)
bools-less true false e = cc
bools-less true true e = cc

bools-equal : (a b : Bool) → bool_cmp a b ≡ Equal → a ≡ b
bools-equal false false e = refl
bools-equal false true e = cc
bools-equal true false e = cc
bools-equal true true e = refl

nats-less : (a b : ℕ) → nat_cmp a b ≡ Less → a < b
nats-less a b e = ranked a b Less (sym e)

nats-equal : (a b : ℕ) → nat_cmp a b ≡ Equal → a ≡ b
nats-equal a b e = ranked a b Equal (sym e)

higher : (a b : Parts) → order b a ≡ Less → IsTrue (is_gt (order a b))
higher a b e = ap is_gt (order_total.antisymm a b ∙ ap ordering_reverse e)

not-higher : (a b : Parts) → order b a ≡ Equal → ¬ IsTrue (is_gt (order b a))
not-higher a b e t = let u : IsTrue (is_gt Equal) = subst (λ r. IsTrue (is_gt r)) e t in cc

rev-of : (r s : RevisionId) → r.0 ≡ s.0 → r ≡ s
rev-of r s e = ap (λ n. record { 0 = n }) e

-- ---- preference

pub preference-total : (K : List Known) (W : List Wiring) → IsTotalOrder (preference K W)
preference-total K W =
    then_total (back_total (on_total (λ (c : CapRef). is_in_force W c.provider) bool_cmp_total))
    (then_total (back_total (on_total (preference_version K) order_total))
    (then_total (on_total (λ (c : CapRef). bundle_of K c.provider) nat_cmp_total) (then_total (on_total (λ (c : CapRef). c.owner.0) nat_cmp_total) (on_total (λ (c : CapRef). c.index) nat_cmp_total))))

force-differs : (W : List Wiring) (c d : CapRef) → (is_in_force W d.provider ≡ false) × (is_in_force W c.provider ≡ true) → InForce W c.provider × ¬ InForce W d.provider
force-differs W c d e = ((force_decides W c.provider).0 e.1, λ h. false-true (sym e.0 ∙ (force_decides W d.provider).1 h))
  where
    false-true : false ≡ true → ⊥
    false-true e = cc

force-same : (W : List Wiring) (c d : CapRef) → is_in_force W d.provider ≡ is_in_force W c.provider → InForce W c.provider ↔ InForce W d.provider
force-same W c d e = (
  λ h. (force_decides W d.provider).0 (e ∙ (force_decides W c.provider).1 h),
  λ h. (force_decides W c.provider).0 (sym e ∙ (force_decides W d.provider).1 h),
)

-- of two capabilities of current providers, the first in the order is preferred
pub less-preferred : (P : Problem) → AreOrdered P.world.known P.world.wirings → (c d : CapRef) → IsTrue (is_current P.world.known c.provider) → IsTrue (is_current P.world.known d.provider) →
    preference P.world.known P.world.wirings c d ≡ Less → IsPreferred P c d
less-preferred P o c d s t e = elim (five-less (bool_cmp (is_in_force P.world.wirings d.provider) (is_in_force P.world.wirings c.provider)) (order (preference_version P.world.known d) (preference_version P.world.known c)) (nat_cmp (bundle_of P.world.known c.provider) (bundle_of P.world.known d.provider)) (nat_cmp c.owner.0 d.owner.0) (nat_cmp c.index d.index) e) [
  | inl x ↦ inl (force-differs P.world.wirings c d (bools-less (is_in_force P.world.wirings d.provider) (is_in_force P.world.wirings c.provider) x))
  | inr (x, inl y) ↦ inr (same x, inl (higher (preference_version P.world.known c) (preference_version P.world.known d) y))
  | inr (x, inr (y, inl z)) ↦ inr (same x, inr (level y, inl (nats-less (bundle_of P.world.known c.provider) (bundle_of P.world.known d.provider) z)))
  | inr (x, inr (y, inr (z, inl u))) ↦ inr (same x, inr (level y, inr (provider z, inl (nats-less c.owner.0 d.owner.0 u))))
  | inr (x, inr (y, inr (z, inr (u, v)))) ↦ inr (same x, inr (level y, inr (provider z, inr (rev-of c.owner d.owner (nats-equal c.owner.0 d.owner.0 u), nats-less c.index d.index v))))
]
  where
    same : bool_cmp (is_in_force P.world.wirings d.provider) (is_in_force P.world.wirings c.provider) ≡ Equal → InForce P.world.wirings c.provider ↔ InForce P.world.wirings d.provider
    same x = force-same P.world.wirings c d (bools-equal (is_in_force P.world.wirings d.provider) (is_in_force P.world.wirings c.provider) x)

    level : order (preference_version P.world.known d) (preference_version P.world.known c) ≡ Equal → ¬ IsTrue (is_higher P.world.known d c)
    level y = not-higher (preference_version P.world.known c) (preference_version P.world.known d) y

    provider : nat_cmp (bundle_of P.world.known c.provider) (bundle_of P.world.known d.provider) ≡ Equal → c.provider ≡ d.provider
    provider z = o.one_current c.provider d.provider s t (nats-equal (bundle_of P.world.known c.provider) (bundle_of P.world.known d.provider) z)

-- two that are equal in the order are one
pub equal-same : (P : Problem) → AreOrdered P.world.known P.world.wirings → (c d : CapRef) → IsTrue (is_current P.world.known c.provider) → IsTrue (is_current P.world.known d.provider) →
    preference P.world.known P.world.wirings c d ≡ Equal → c ≡ d
equal-same P o c d s t e =
    let keys = five-equal (bool_cmp (is_in_force P.world.wirings d.provider) (is_in_force P.world.wirings c.provider)) (order (preference_version P.world.known d) (preference_version P.world.known c)) (nat_cmp (bundle_of P.world.known c.provider) (bundle_of P.world.known d.provider)) (nat_cmp c.owner.0 d.owner.0) (nat_cmp c.index d.index) e in
    cap-eq c d (o.one_current c.provider d.provider s t (nats-equal (bundle_of P.world.known c.provider) (bundle_of P.world.known d.provider) keys.0)) (rev-of c.owner d.owner (nats-equal c.owner.0 d.owner.0 keys.1)) (nats-equal c.index d.index keys.2)
