-- What `is_empty` says of a list.
use Rattle.std.proofs.Common.{◌≡◌, ◌==◌, Bool, true, false, not, IsTrue, List, [], ◌∷◌, length, refl, sym, ◌∙◌, arith}
use Rattle.std.proofs.lemmas.Bool.{eqb-true, false≢true}

pub empty-true : {X : Type 0} (xs : List X) → (length xs == 0) ≡ true → xs ≡ []
empty-true [] t = refl
empty-true (x ∷ xs) t = absurd (omega (arith, eqb-true (length (x ∷ xs)) 0 t))

pub empty-false : {X : Type 0} (xs : List X) → (length xs == 0) ≡ false → ¬ (xs ≡ [])
empty-false [] t none = false≢true (sym t ∙ refl)
empty-false (x ∷ xs) t none = cc

pub not_empty : {X : Type 0} (xs : List X) (b : Bool) → b ≡ (length xs == 0) → IsTrue (not b) → ¬ (xs ≡ [])
not_empty xs true is t = absurd (false≢true t)
not_empty xs false is t = empty-false xs (sym is)

pub some_item : {X : Type 0} (xs : List X) (b : Bool) → b ≡ (length xs == 0) → ¬ (xs ≡ []) → IsTrue (not b)
some_item xs true is some = absurd (some (empty-true xs (sym is)))
some_item xs false is some = refl
