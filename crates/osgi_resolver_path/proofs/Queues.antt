-- Lists of which the last part is only begun.
use Rattle.std.proofs.Common.{◌≡◌, ℕ, ◌+◌, ◌≤◌, zero, suc, length, take, List, [], ◌∷◌, ◌++◌, refl, ◌∙◌, ap, arith}

take-later : {X : Type 0} (xs ys : List X) (m n : ℕ) → m ≡ length xs + n → take m (xs ++ ys) ≡ xs ++ take n ys
take-later [] ys m n e = let h : m ≡ n = omega (arith, e) in ap (λ k. take k ys) h
take-later (x ∷ xs) ys zero n e = absurd (omega (arith, e))
take-later (x ∷ xs) ys (suc m) n e = ap (λ l. x ∷ l) (take-later xs ys m n (omega (arith, e)))

take-shorter : {X : Type 0} (n u : ℕ) (ys : List X) → n ≤ u → take n (take u ys) ≡ take n ys
take-shorter zero u ys h = refl
take-shorter (suc n) zero ys h = absurd (omega (arith, h))
take-shorter (suc n) (suc u) [] h = refl
take-shorter (suc n) (suc u) (y ∷ ys) h = ap (λ l. y ∷ l) (take-shorter n u ys (omega (arith, h)))

-- less of the last part is left where a beginning ends in it
pub cut-later : {X : Type 0} (xs ys : List X) (u m n : ℕ) → m ≡ length xs + n → n ≤ u → take m (xs ++ take u ys) ≡ xs ++ take n ys
cut-later xs ys u m n e h = take-later xs (take u ys) m n e ∙ ap (λ l. xs ++ l) (take-shorter n u ys h)
