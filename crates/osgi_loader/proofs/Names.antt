-- The last dot of a name.
use Rattle.std.proofs.Common.{◌≡◌, ◌==◌, ◌+◌, ◌-◌, ◌<◌, ℕ, Bool, true, false, List, [], ◌∷◌, ◌++◌, length, get_or, take, refl, ap, ◌∙◌}
use Rattle.std.specs.Prelude.{if◌then◌else◌, None, Option, Some, unwrap_or}
use Rattle.std.specs.Option.{option_map, option_or}
use Rattle.std.proofs.lemmas.Bool.{eq-eqb, eqb-true}
use Rattle.std.proofs.lemmas.List.{take_more}
use Rattle.osgi_ops.specs.Assignable.{before_last_dot}

-- one byte more at the end of the name
dot-push : (xs : List ℕ) (b : ℕ) → before_last_dot (xs ++ b ∷ []) ≡ (if b == 46 then Some xs else before_last_dot xs)
dot-push [] b = refl
dot-push (x ∷ xs) b = ap (λ (o : Option (List ℕ)). option_or (option_map (λ (front : List ℕ). x ∷ front) o) (if x == 46 then Some [] else None)) (dot-push xs b) ∙ by (b == 46)
  where
    by : (t : Bool) → option_or (option_map (λ (front : List ℕ). x ∷ front) (if t then Some xs else before_last_dot xs)) (if x == 46 then Some [] else None) ≡ (if t then Some (x ∷ xs) else before_last_dot (x ∷ xs))
    by true = refl
    by false = refl

module _ (xs : List ℕ) (i : ℕ) (within : i < length xs) where
  more : (t : Bool) → (get_or xs i 0 == 46) ≡ t → unwrap_or (before_last_dot (take (i + 1) xs)) [] ≡ unwrap_or (if t then Some (take i xs) else before_last_dot (take i xs)) []
  more t e = ap (λ l. unwrap_or (before_last_dot l) []) (take_more xs i 0 within) ∙ ap (λ o. unwrap_or o []) (dot-push (take i xs) (get_or xs i 0)) ∙ ap (λ t. unwrap_or (if t then Some (take i xs) else before_last_dot (take i xs)) []) e

  -- where there is a dot, the name ends before it
  pub dot-here : get_or xs i 0 ≡ 46 → unwrap_or (before_last_dot (take (i + 1) xs)) [] ≡ take i xs
  dot-here e = more true (eq-eqb (get_or xs i 0) 46 e)

  pub dot-before : ¬ (get_or xs i 0 ≡ 46) → unwrap_or (before_last_dot (take (i + 1) xs)) [] ≡ unwrap_or (before_last_dot (take i xs)) []
  dot-before other = by (get_or xs i 0 == 46) refl
    where
      by : (t : Bool) → (get_or xs i 0 == 46) ≡ t → unwrap_or (before_last_dot (take (i + 1) xs)) [] ≡ unwrap_or (before_last_dot (take i xs)) []
      by true e = absurd (other (eqb-true (get_or xs i 0) 46 e))
      by false e = more false e
