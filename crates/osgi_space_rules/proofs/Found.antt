-- What a binary search finds among sorted items, and that a sort keeps the items.
use Rattle.std.proofs.Common.{◌≡◌, ◌↔◌, ◌⊎◌, inl, inr, ℕ, suc, ◌<◌, ◌≤◌, List, [], ◌∷◌, length, get_or, IsTrue, Result, Ok, Err, refl, sym, subst, arith}
use Rattle.std.specs.Prelude.{Bool, is_ok}
use Rattle.std.specs.List.{Contains}
use Rattle.std.specs.List.Sorted.{IsBinarySearchResult, IsPartitionPoint, IsPermutation, IsSearchInRange, IsSorted}
use Rattle.std.specs.Cmp.{IsTotalOrder}
use Rattle.std.specs.declared.cmp.Ordering.{Ordering}
use Rattle.std.specs.declared.cmp.Ordering.TheVariants.{Less, Equal, Greater}
use Rattle.std.proofs.lemmas.Bool.{false≢true}
use Rattle.std.proofs.lemmas.Cmp.{tied_itself}
use Rattle.std.proofs.lemmas.List.{get_or_default}
use Rattle.std.proofs.lemmas.List.Sorted.{Contains-permutation, IsPermutation-sym, searchable_from_sorted}
use Rattle.std.proofs.lemmas.Map.Lookups.{CmpEqualImpliesEq}
use Rattle.osgi_space_rules.specs.computed.Growing.{HasEqual, HaveSame}
use Rattle.osgi_world.specs.Lists.{In}
use Rattle.osgi_space_rules.proofs.Grow.{at_in}

-- ---- items and their places

in-contains : {X : Type 0} (xs : List X) (x : X) → In x xs → Contains xs x
in-contains [] x here = elim here [ ]
in-contains (y ∷ ys) x (inl e) = (0, omega arith, sym e)
in-contains (y ∷ ys) x (inr here) = let at = in-contains ys x here in (suc at.0, omega (arith, at.1), at.2)

contains-in : {X : Type 0} (xs : List X) (x : X) → Contains xs x → In x xs
contains-in xs x at = at_in xs at.0 x at.1 (sym at.2)

pub same_items : {X : Type 0} (xs ys : List X) → IsPermutation xs ys → HaveSame ys xs
same_items xs ys moved x = (
  λ here. contains-in xs x (Contains-permutation ys xs x (IsPermutation-sym xs ys moved) (in-contains ys x here)),
  λ here. contains-in ys x (Contains-permutation xs ys x moved (in-contains xs x here)),
)

-- ---- a search

module _ {X : Type 0} {cmp : X → X → Ordering} (total : IsTotalOrder cmp) (xs : List X) (sorted : IsSorted cmp xs) (k : X) where
  found_one : (i : ℕ) → i < length xs → cmp (get_or xs i k) k ≡ Equal → HasEqual cmp xs k
  found_one i within same = (get_or xs i k, at_in xs i (get_or xs i k) within (get_or_default xs i k (get_or xs i k) within), same)

  no_less : (x : X) → cmp x k ≡ Equal → cmp x k ≡ Less → ⊥
  no_less x same other = cc

  no_greater : (x : X) → cmp x k ≡ Equal → cmp x k ≡ Greater → ⊥
  no_greater x same other = cc

  none_there : (i : ℕ) → IsPartitionPoint (λ y. cmp y k ≡ Less) (λ y. cmp y k ≡ Greater) xs i → (x : X) → (j : ℕ) → j < length xs → get_or xs j x ≡ x → (j < i) ⊎ (i ≤ j) → cmp x k ≡ Equal → ⊥
  none_there i parted x j within at (inl before) same = no_less x same (subst (λ y. cmp y k ≡ Less) at (parted.0 j x (omega arith) before))
  none_there i parted x j within at (inr after) same = no_greater x same (subst (λ y. cmp y k ≡ Greater) at (parted.1 j x after within))

  either_side : (i j : ℕ) → (j < i) ⊎ (i ≤ j)
  either_side i j = grind arith

  pub searched : (r : Result ℕ ℕ) → IsSearchInRange r (length xs) → IsBinarySearchResult (λ y. cmp y k) xs r → IsTrue (is_ok r) ↔ HasEqual cmp xs k
  searched (Ok i) within found = (λ t. found_one i within (found k), λ some. refl)
  searched (Err i) within gap =
      let parted : IsPartitionPoint (λ y. cmp y k ≡ Less) (λ y. cmp y k ≡ Greater) xs i = gap (searchable_from_sorted total (λ x. x) xs k sorted) in (
        λ t. absurd (false≢true t),
        λ some. let at = in-contains xs some.0 some.1 in absurd (none_there i parted some.0 at.0 at.1 at.2 (either_side i at.0) some.2),
      )

-- where items that tie are the same
exactly : {X : Type 0} {cmp : X → X → Ordering} → IsTotalOrder cmp → CmpEqualImpliesEq cmp → (xs : List X) (k : X) → HasEqual cmp xs k ↔ In k xs
exactly total exact xs k = (
  λ some. subst (λ x. In x xs) (exact some.0 k some.2) some.1,
  λ here. (k, here, tied_itself total k),
)

pub through : {A B C : Type 0} → A ↔ B → B ↔ C → A ↔ C
through p q = (λ a. q.0 (p.0 a), λ c. p.1 (q.1 c))

-- whether a set has an item, where its having one says P
pub decided : {X : Type 0} {cmp : X → X → Ordering} → IsTotalOrder cmp → CmpEqualImpliesEq cmp → (xs : List X) (k : X) (b : Bool) (P : Type 0) → IsTrue b ↔ HasEqual cmp xs k → In k xs ↔ P → IsTrue b ↔ P
decided total exact xs k b P has means = through has (through (exactly total exact xs k) means)
