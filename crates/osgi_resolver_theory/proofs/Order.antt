-- The order of words, which is total, and what stands before w with one number more.
use Rattle.std.proofs.Common.{◌≡◌, ℕ, ◌+◌, ◌<◌, ◌⊎◌, inl, inr, List, [], ◌∷◌, ◌++◌, zero, suc, refl, sym, ◌∙◌, subst, arith}
use Rattle.std.proofs.Math.Nat.{eq-or-lt_of_le}
use Rattle.osgi_world.specs.Effort.{IsBefore}

-- the second begins with the first
abbrev pub Begins : List ℕ → List ℕ → Type 0
Begins [] u = Unit {0}
Begins (x ∷ xs) [] = ⊥
Begins (x ∷ xs) (y ∷ ys) = (x ≡ y) × Begins xs ys

pub no-before : (u : List ℕ) → ¬ IsBefore u []
no-before [] b = b
no-before (x ∷ u) b = b

below-zero-cons : (y : ℕ) (w : List ℕ) (x : ℕ) (u : List ℕ) → x ≡ y → IsBefore u w ⊎ (u ≡ w) → IsBefore (x ∷ u) (y ∷ w) ⊎ ((x ∷ u) ≡ (y ∷ w))
below-zero-cons y w x u e (inl b) = inl (inr (e, b))
below-zero-cons y w x u e (inr same) = inr (rw (e, same) refl)

pub below-zero : (w u : List ℕ) → IsBefore u (w ++ 0 ∷ []) → IsBefore u w ⊎ (u ≡ w)
below-zero [] [] b = inr refl
below-zero [] (x ∷ u) (inl less) = absurd (omega (arith, less))
below-zero [] (x ∷ u) (inr same) = absurd (no-before u same.1)
below-zero (y ∷ w) [] b = inl tt
below-zero (y ∷ w) (x ∷ u) (inl less) = inl (inl less)
below-zero (y ∷ w) (x ∷ u) (inr same) = below-zero-cons y w x u same.0 (below-zero w u same.1)

next-down-head : (x : ℕ) (u : List ℕ) (v : ℕ) → (x ≡ v) ⊎ (x < v) → IsBefore (x ∷ u) (v ∷ []) ⊎ Begins (v ∷ []) (x ∷ u)
next-down-head x u v (inl e) = inr (sym e, tt)
next-down-head x u v (inr less) = inl (inl less)

next-down-cons : (y : ℕ) (w : List ℕ) (x : ℕ) (u : List ℕ) → x ≡ y → IsBefore u w ⊎ Begins w u → IsBefore (x ∷ u) (y ∷ w) ⊎ Begins (y ∷ w) (x ∷ u)
next-down-cons y w x u e (inl b) = inl (inr (e, b))
next-down-cons y w x u e (inr b) = inr (sym e, b)

pub next-down : (w u : List ℕ) (v : ℕ) → IsBefore u (w ++ (v + 1) ∷ []) → IsBefore u (w ++ v ∷ []) ⊎ Begins (w ++ v ∷ []) u
next-down [] [] v b = inl tt
next-down [] (x ∷ u) v (inl less) = next-down-head x u v (eq-or-lt_of_le (omega (arith, less)))
next-down [] (x ∷ u) v (inr same) = absurd (no-before u same.1)
next-down (y ∷ w) [] v b = inl tt
next-down (y ∷ w) (x ∷ u) v (inl less) = inl (inl less)
next-down (y ∷ w) (x ∷ u) v (inr same) = next-down-cons y (w ++ v ∷ []) x u same.0 (next-down w u v same.1)

pub next-up : (w u : List ℕ) (v : ℕ) → IsBefore u (w ++ v ∷ []) ⊎ Begins (w ++ v ∷ []) u → IsBefore u (w ++ (v + 1) ∷ [])
next-up [] [] v b = tt
next-up [] (x ∷ u) v (inl (inl less)) = inl (omega (arith, less))
next-up [] (x ∷ u) v (inl (inr same)) = absurd (no-before u same.1)
next-up [] (x ∷ u) v (inr b) = inl (omega (arith, b.0))
next-up (y ∷ w) [] v b = tt
next-up (y ∷ w) (x ∷ u) v (inl (inl less)) = inl less
next-up (y ∷ w) (x ∷ u) v (inl (inr same)) = inr (same.0, next-up w u v (inl same.1))
next-up (y ∷ w) (x ∷ u) v (inr b) = inr (sym b.0, next-up w u v (inr b.1))

pub begins-append : (x s : List ℕ) → Begins x (x ++ s)
begins-append [] s = tt
begins-append (y ∷ x) s = (refl, begins-append x s)

begins-split-cons : (y : ℕ) (x : List ℕ) (z : ℕ) (u : List ℕ) → y ≡ z → (s : List ℕ) × (u ≡ x ++ s) → (s : List ℕ) × ((z ∷ u) ≡ ((y ∷ x) ++ s))
begins-split-cons y x z u e r = (r.0, rw (e, r.1) refl)

pub begins-split : (x u : List ℕ) → Begins x u → (s : List ℕ) × (u ≡ x ++ s)
begins-split [] u b = (u, refl)
begins-split (y ∷ x) [] b = elim b [ ]
begins-split (y ∷ x) (z ∷ u) b = begins-split-cons y x z u b.0 (begins-split x u b.1)

pub before-longer : (u x s : List ℕ) → IsBefore u x → IsBefore u (x ++ s)
before-longer [] [] s b = elim b [ ]
before-longer (z ∷ u) [] s b = elim b [ ]
before-longer [] (y ∷ x) s b = tt
before-longer (z ∷ u) (y ∷ x) s (inl less) = inl less
before-longer (z ∷ u) (y ∷ x) s (inr same) = inr (same.0, before-longer u x s same.1)

begins-refl : (x : List ℕ) → Begins x x
begins-refl [] = tt
begins-refl (y ∷ x) = (refl, begins-refl x)

suc-plus : (n : ℕ) → suc n ≡ n + 1
suc-plus n = omega arith

begins-shorter : (x s u : List ℕ) → Begins (x ++ s) u → Begins x u
begins-shorter [] s u b = tt
begins-shorter (y ∷ x) s [] b = elim b [ ]
begins-shorter (y ∷ x) s (z ∷ u) b = (b.0, begins-shorter x s u b.1)

below-child-zero : (x u : List ℕ) → IsBefore u x ⊎ (u ≡ x) → IsBefore u x ⊎ Begins x u
below-child-zero x u (inl b) = inl b
below-child-zero x u (inr same) = inr (subst (λ y. Begins y u) same (begins-refl u))

below-child-suc : (x u : List ℕ) (n : ℕ) → IsBefore u (x ++ n ∷ []) ⊎ Begins (x ++ n ∷ []) u → (IsBefore u (x ++ n ∷ []) → IsBefore u x ⊎ Begins x u) → IsBefore u x ⊎ Begins x u
below-child-suc x u n (inl b) further = further b
below-child-suc x u n (inr b) further = inr (begins-shorter x (n ∷ []) u b)

-- below x with one number more, u is before x or begins with it
pub below-child : (x u : List ℕ) (n : ℕ) → IsBefore u (x ++ n ∷ []) → IsBefore u x ⊎ Begins x u
below-child x u zero b = below-child-zero x u (below-zero x u b)
below-child x u (suc n) b = below-child-suc x u n (next-down x u n (subst (λ m. IsBefore u (x ++ m ∷ [])) (suc-plus n) b)) (below-child x u n)

-- what extends x by a number less than n
pub child-below : (x s : List ℕ) (k n : ℕ) → k < n → IsBefore (x ++ k ∷ s) (x ++ n ∷ [])
child-below [] s k n less = inl less
child-below (y ∷ x) s k n less = inr (refl, child-below x s k n less)

pub itself-below : (x : List ℕ) (n : ℕ) → IsBefore x (x ++ n ∷ [])
itself-below [] n = tt
itself-below (y ∷ x) n = inr (refl, itself-below x n)

-- ---- a total order

pub before-not_same : (w : List ℕ) → ¬ IsBefore w w
before-not_same [] b = b
before-not_same (x ∷ w) (inl less) = omega (arith, less)
before-not_same (x ∷ w) (inr same) = before-not_same w same.1

before-trans_go : (x y z : ℕ) (u v w : List ℕ) → (x < y) ⊎ (x ≡ y) × IsBefore u v → (y < z) ⊎ (y ≡ z) × IsBefore v w → (IsBefore u v → IsBefore v w → IsBefore u w) → (x < z) ⊎ (x ≡ z) × IsBefore u w
before-trans_go x y z u v w (inl a) (inl b) rest = inl (omega (arith, a, b))
before-trans_go x y z u v w (inl a) (inr b) rest = inl (omega (arith, a, b.0))
before-trans_go x y z u v w (inr a) (inl b) rest = inl (omega (arith, a.0, b))
before-trans_go x y z u v w (inr a) (inr b) rest = inr (a.0 ∙ b.0, rest a.1 b.1)

pub before-trans : (u v w : List ℕ) → IsBefore u v → IsBefore v w → IsBefore u w
before-trans u v [] a b = absurd (no-before v b)
before-trans u [] (z ∷ w) a b = absurd (no-before u a)
before-trans [] (y ∷ v) (z ∷ w) a b = tt
before-trans (x ∷ u) (y ∷ v) (z ∷ w) a b = before-trans_go x y z u v w a b (before-trans u v w)

nat-order : (x y : ℕ) → (x < y) ⊎ ((x ≡ y) ⊎ (y < x))
nat-order x y = grind arith

before-total_go : (x y : ℕ) (u v : List ℕ) → (x < y) ⊎ ((x ≡ y) ⊎ (y < x)) → IsBefore u v ⊎ ((u ≡ v) ⊎ IsBefore v u) → IsBefore (x ∷ u) (y ∷ v) ⊎ (((x ∷ u) ≡ (y ∷ v)) ⊎ IsBefore (y ∷ v) (x ∷ u))
before-total_go x y u v (inl a) rest = inl (inl a)
before-total_go x y u v (inr (inr a)) rest = inr (inr (inl a))
before-total_go x y u v (inr (inl e)) (inl a) = inl (inr (e, a))
before-total_go x y u v (inr (inl e)) (inr (inl f)) = inr (inl (rw (e, f) refl))
before-total_go x y u v (inr (inl e)) (inr (inr a)) = inr (inr (inr (sym e, a)))

pub before-total : (u v : List ℕ) → IsBefore u v ⊎ ((u ≡ v) ⊎ IsBefore v u)
before-total [] [] = inr (inl refl)
before-total [] (y ∷ v) = inl tt
before-total (x ∷ u) [] = inr (inr tt)
before-total (x ∷ u) (y ∷ v) = before-total_go x y u v (nat-order x y) (before-total u v)
