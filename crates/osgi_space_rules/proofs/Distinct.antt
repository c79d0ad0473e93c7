-- Loops over a list that look for two items with one key.
use Rattle.std.proofs.Common.{◌≡◌, ◌⊎◌, inl, inr, ℕ, zero, suc, ◌+◌, ◌<◌, ◌≤◌, List, [], ◌∷◌, ◌++◌, length, get_or, take, sym, ◌∙◌, refl, subst, arith}
use Rattle.std.specs.Prelude.{Bool, true, false, not}
use Rattle.std.specs.BTreeSet.{BTreeSet, contains}
use Rattle.std.specs.declared.cmp.Ordering.{Ordering}
use Rattle.std.proofs.lemmas.Bool.{false≢true}
use Rattle.std.proofs.lemmas.List.{take_all}
use Rattle.osgi_space_rules.specs.computed.Growing.{Grows, Has, Nothing, AnyOf}
use Rattle.osgi_world.specs.Lists.{In, Two}
use Rattle.osgi_space_rules.proofs.Grow.{in_either, one_more, take_in}

module _ {X : Type 0} (R : X → X → Type 0) where
  last_there : (xs : List X) (x : X) → In x (xs ++ x ∷ [])
  last_there [] x = inl refl
  last_there (z ∷ xs) x = inr (last_there xs x)

  two_last_by : (z x y : X) (xs : List X) → R y x → (y ≡ z) ⊎ In y xs → (In y xs → Two R (xs ++ x ∷ [])) → Two R ((z ∷ xs) ++ x ∷ [])
  two_last_by z x y xs r (inl e) rest = inl (x, last_there xs x, subst (λ w. R w x) e r)
  two_last_by z x y xs r (inr here) rest = inr (rest here)

  two_last : (xs : List X) (x : X) → AnyOf (λ z. R z x) xs → Two R (xs ++ x ∷ [])
  two_last [] x some = elim some.1 [ ]
  two_last (z ∷ xs) x some = two_last_by z x some.0 xs some.2 some.1 (λ here. two_last xs x (some.0, here, some.2))

  either_cons : (z x : X) (xs : List X) → Two R xs ⊎ AnyOf (λ y. R y x) xs → Two R (z ∷ xs) ⊎ AnyOf (λ y. R y x) (z ∷ xs)
  either_cons z x xs (inl two) = inl (inr two)
  either_cons z x xs (inr some) = inr (some.0, inr some.1, some.2)

  either_here : (z x y : X) (xs : List X) → R z y → In y xs ⊎ (y ≡ x) → Two R (z ∷ xs) ⊎ AnyOf (λ w. R w x) (z ∷ xs)
  either_here z x y xs r (inl here) = inl (inl (y, here, r))
  either_here z x y xs r (inr e) = inr (z, inl refl, subst (R z) e r)

  two_either : (xs : List X) (x : X) → Two R (xs ++ x ∷ []) → Two R xs ⊎ AnyOf (λ z. R z x) xs
  two_either [] x (inl one) = elim one.1 [ ]
  two_either [] x (inr none) = elim none [ ]
  two_either (z ∷ xs) x (inl one) = either_here z x one.0 xs one.2 (in_either xs x one.0 one.1)
  two_either (z ∷ xs) x (inr two) = either_cons z x xs (two_either xs x two)

  two_taken : (xs : List X) (i : ℕ) → Two R (take i xs) → Two R xs
  two_taken [] zero two = elim two [ ]
  two_taken [] (suc i) two = elim two [ ]
  two_taken (z ∷ xs) zero two = elim two [ ]
  two_taken (z ∷ xs) (suc i) (inl one) = inl (one.0, take_in xs i one.0 one.1, one.2)
  two_taken (z ∷ xs) (suc i) (inr two) = inr (two_taken xs i two)

  -- one more item that stands so to none before it
  pub differ_step : (xs : List X) (i : ℕ) (x : X) → i < length xs → x ≡ get_or xs i x → ¬ Two R (take i xs) → ¬ AnyOf (λ z. R z x) (take i xs) → ¬ Two R (take (i + 1) xs)
  differ_step xs i x within at before none two = elim (two_either (take i xs) x (subst (Two R) (one_more xs i x within at) two)) [ inl old ↦ before old | inr some ↦ none some ]

  -- one that does
  pub two_found : (xs : List X) (i : ℕ) (x : X) → i < length xs → x ≡ get_or xs i x → AnyOf (λ z. R z x) (take i xs) → Two R xs
  two_found xs i x within at some = two_taken xs (i + 1) (subst (Two R) (sym (one_more xs i x within at)) (two_last (take i xs) x some))

  pub differ_done : (xs : List X) (i : ℕ) → length xs ≤ i → ¬ Two R (take i xs) → ¬ Two R xs
  differ_done xs i past before = subst (λ l. ¬ Two R l) (take_all i xs past) before

-- of fewer than two items there are no two
pub no_two : {X : Type 0} (R : X → X → Type 0) (xs : List X) → length xs < 2 → ¬ Two R xs
no_two R [] few two = elim two [ ]
no_two R (x ∷ []) few (inl one) = elim one.1 [ ]
no_two R (x ∷ []) few (inr none) = elim none [ ]
no_two R (x ∷ y ∷ ys) few two = absurd (omega arith)

pub two_weaker : {X : Type 0} (R S : X → X → Type 0) → ((x y : X) → R x y → S x y) → (xs : List X) → Two R xs → Two S xs
two_weaker R S up [] two = elim two [ ]
two_weaker R S up (x ∷ xs) (inl one) = inl (one.0, one.1, up x one.0 one.2)
two_weaker R S up (x ∷ xs) (inr two) = inr (two_weaker R S up xs two)

-- ---- by keys

was_there : (added was : Bool) → added ≡ not was → added ≡ false → was ≡ true
was_there added true is no_new = refl
was_there added false is no_new = absurd (cc (is, no_new))

was_not : (added was : Bool) → added ≡ not was → added ≡ true → was ≡ false
was_not added true is new = absurd (cc (is, new))
was_not added false is new = refl

module _ {X Y : Type 0} (cmp : Y → Y → Ordering) (key : X → Y) (set : BTreeSet Y) (xs : List X) (grown : Grows Nothing (Has cmp set) (λ (x : X) y. y ≡ key x) xs) (x : X) (k : Y) (named : k ≡ key x) (added : Bool) (is : added ≡ not (contains cmp set k)) where
  pub fresh : added ≡ true → ¬ AnyOf (λ z. key z ≡ key x) xs
  fresh new some =
      let has : contains cmp set k ≡ true = (grown k).1 (inr (some.0, some.1, named ∙ sym some.2)) in
      false≢true (sym (was_not added (contains cmp set k) is new) ∙ has)

  pub seen : added ≡ false → AnyOf (λ z. key z ≡ key x) xs
  seen no_new = elim ((grown k).0 (was_there added (contains cmp set k) is no_new)) [ inl n ↦ absurd n | inr some ↦ (some.0, some.1, sym some.2 ∙ named) ]
