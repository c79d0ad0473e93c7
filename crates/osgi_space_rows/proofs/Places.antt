-- What stands at the places of a list that has grown.
use Rattle.std.proofs.Common.{◌≡◌, ◌⊎◌, inl, inr, ℕ, zero, suc, List, [], ◌∷◌, ◌++◌, length, refl, ap}
use Rattle.std.specs.Prelude.{Some, slice_get}

pub some-same : {X : Type 0} (x y : X) → Some x ≡ Some y → x ≡ y
some-same x y e = cc

pub get-append : {X : Type 0} (xs ys : List X) (n : ℕ) (x : X) → slice_get xs n ≡ Some x → slice_get (xs ++ ys) n ≡ Some x
get-append [] ys n x at = absurd (cc at)
get-append (y ∷ xs) ys zero x at = at
get-append (y ∷ xs) ys (suc n) x at = get-append xs ys n x at

pub get-push : {X : Type 0} (xs : List X) (x : X) → slice_get (xs ++ x ∷ []) (length xs) ≡ Some x
get-push [] x = refl
get-push (y ∷ xs) x = get-push xs x

pub get-push_cases : {X : Type 0} (xs : List X) (y : X) (n : ℕ) (x : X) → slice_get (xs ++ y ∷ []) n ≡ Some x → (slice_get xs n ≡ Some x) ⊎ ((n ≡ length xs) × (y ≡ x))
get-push_cases [] y zero x at = inr (refl, some-same y x at)
get-push_cases [] y (suc n) x at = absurd (cc at)
get-push_cases (z ∷ xs) y zero x at = inl at
get-push_cases (z ∷ xs) y (suc n) x at = elim (get-push_cases xs y n x at) [ inl old ↦ inl old | inr new ↦ inr (ap suc new.0, new.1) ]
