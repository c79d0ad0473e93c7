-- The keys of a set after one is put in, and two keys of a set.
use Rattle.std.proofs.Common.{◌≡◌, ◌⊎◌, inl, inr, List, [], ◌∷◌, ◌++◌, reverse, refl, sym, subst}
use Rattle.std.specs.BTreeSet.{insert_key}
use Rattle.std.specs.List.{AllByRecursion}
use Rattle.std.specs.List.Sorted.{IsStrictlySortedBy}
use Rattle.std.specs.Ordering.{match_ordering}
use Rattle.std.specs.declared.cmp.Ordering.{Ordering}
use Rattle.std.specs.declared.cmp.Ordering.TheVariants.{Less, Equal, Greater}
use Rattle.std.proofs.lemmas.List.{reverse-append}
use Rattle.osgi_resolver_theory.proofs.Lists.{in-append_cases, in-append_left, in-append_right}
use Rattle.osgi_resolver_theory.proofs.Twos.{two-append}
use Rattle.osgi_world.specs.Lists.{In, Two}

module _ {K : Type 0} (cmp : K → K → Ordering) (k : K) where
  in-put : (x : K) (xs ys : List K) (o : Ordering) (y : K) → In y (match_ordering o (k ∷ x ∷ xs) (x ∷ xs) (x ∷ ys)) → (In y ys → (y ≡ k) ⊎ In y xs) → (y ≡ k) ⊎ In y (x ∷ xs)
  in-put x xs ys Less y (inl e) rest = inl e
  in-put x xs ys Less y (inr i) rest = inr i
  in-put x xs ys Equal y i rest = inr i
  in-put x xs ys Greater y (inl e) rest = inr (inl e)
  in-put x xs ys Greater y (inr i) rest = later (rest i)
    where
      later : (y ≡ k) ⊎ In y xs → (y ≡ k) ⊎ ((y ≡ x) ⊎ In y xs)
      later (inl e) = inl e
      later (inr j) = inr (inr j)

  pub put_in : (xs : List K) (y : K) → In y (insert_key cmp xs k) → (y ≡ k) ⊎ In y xs
  put_in [] y (inl e) = inl e
  put_in [] y (inr i) = elim i [ ]
  put_in (x ∷ xs) y i = in-put x xs (insert_key cmp xs k) (cmp k x) y i (put_in xs y)

  kept-put : (x : K) (xs ys : List K) (o : Ordering) (y : K) → (y ≡ x) ⊎ In y xs → (In y xs → In y ys) → In y (match_ordering o (k ∷ x ∷ xs) (x ∷ xs) (x ∷ ys))
  kept-put x xs ys Less y i rest = inr i
  kept-put x xs ys Equal y i rest = i
  kept-put x xs ys Greater y (inl e) rest = inl e
  kept-put x xs ys Greater y (inr i) rest = inr (rest i)

  pub put_kept : (xs : List K) (y : K) → In y xs → In y (insert_key cmp xs k)
  put_kept [] y i = elim i [ ]
  put_kept (x ∷ xs) y i = kept-put x xs (insert_key cmp xs k) (cmp k x) y i (put_kept xs y)

  abbrev pub Stored : List K → Type 0
  Stored ys = (z : K) × In z ys × ((z ≡ k) ⊎ (cmp k z ≡ Equal))

  stored-put : (x : K) (xs ys : List K) (o : Ordering) → cmp k x ≡ o → Stored ys → Stored (match_ordering o (k ∷ x ∷ xs) (x ∷ xs) (x ∷ ys))
  stored-put x xs ys Less e s = (k, inl refl, inl refl)
  stored-put x xs ys Equal e s = (x, inl refl, inr e)
  stored-put x xs ys Greater e s = (s.0, inr s.1, s.2)

  -- the key, or one that ties with it, is there
  pub put_stored : (xs : List K) → Stored (insert_key cmp xs k)
  put_stored [] = (k, inl refl, inl refl)
  put_stored (x ∷ xs) = stored-put x xs (insert_key cmp xs k) (cmp k x) refl (put_stored xs)

-- ---- keys in order

all-in : {K : Type 0} (P : K → Type 0) (xs : List K) (y : K) → AllByRecursion P xs → In y xs → P y
all-in P [] y all i = elim i [ ]
all-in P (x ∷ xs) y all (inl e) = subst P (sym e) all.0
all-in P (x ∷ xs) y all (inr i) = all-in P xs y all.1 i

-- two items that stand in a relation, the one below the other
pub record TwoBelow {K : Type 0} (cmp : K → K → Ordering) (R : K → K → Type 0) (xs : List K) : Type 0 where
  pub low : K
  pub high : K
  pub low_in : In low xs
  pub high_in : In high xs
  pub related : R low high
  pub less : cmp low high ≡ Less

pub two_below : {K : Type 0} (cmp : K → K → Ordering) (R : K → K → Type 0) (xs : List K) → IsStrictlySortedBy cmp xs → Two R xs → TwoBelow cmp R xs
unfolding IsStrictlySortedBy
two_below cmp R [] up t = elim t [ ]
two_below cmp R (x ∷ xs) up (inl p) = record { low = x; high = p.0; low_in = inl refl; high_in = inr p.1; related = p.2; less = all-in (λ y. cmp x y ≡ Less) xs p.0 up.0 p.1 }
two_below cmp R (x ∷ xs) up (inr t) =
    let b = two_below cmp R xs up.1 t in
    record { low = b.low; high = b.high; low_in = inr b.low_in; high_in = inr b.high_in; related = b.related; less = b.less }

-- ---- the same from the end

reversed : {K : Type 0} (x : K) (xs : List K) → reverse (x ∷ xs) ≡ reverse xs ++ x ∷ []
reversed x xs = reverse-append (x ∷ []) xs

pub in_reverse : {K : Type 0} (xs : List K) (y : K) → In y (reverse xs) → In y xs
in_reverse [] y i = i
in_reverse (x ∷ xs) y i = elim (in-append_cases (reverse xs) (x ∷ []) y (subst (λ l. In y l) (reversed x xs) i)) [ inl j ↦ inr (in_reverse xs y j) | inr j ↦ elim j [ inl e ↦ inl e | inr n ↦ absurd n ] ]

pub reverse_in : {K : Type 0} (xs : List K) (y : K) → In y xs → In y (reverse xs)
reverse_in [] y i = i
reverse_in (x ∷ xs) y (inl e) = subst (λ l. In y l) (sym (reversed x xs)) (in-append_right (reverse xs) (x ∷ []) y (inl e))
reverse_in (x ∷ xs) y (inr i) = subst (λ l. In y l) (sym (reversed x xs)) (in-append_left (reverse xs) (x ∷ []) y (reverse_in xs y i))

pub two_reverse : {K : Type 0} (R : K → K → Type 0) (xs : List K) → Two R (reverse xs) → Two (λ a b. R b a) xs
two_reverse R [] t = elim t [ ]
two_reverse R (x ∷ xs) t = elim (two-append R (reverse xs) (x ∷ []) (subst (λ l. Two R l) (reversed x xs) t)) [
  | inl a ↦ inr (two_reverse R xs a)
  | inr rest ↦ elim rest [
    | inl one ↦ elim one [ inl p ↦ absurd p.1 | inr n ↦ absurd n ]
    | inr p ↦ elim p.3 [ inl e ↦ inl (p.0, in_reverse xs p.0 p.2, subst (λ z. R p.0 z) e p.4) | inr n ↦ absurd n ]
  ]
]
