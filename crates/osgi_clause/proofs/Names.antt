-- The names of attributes and directives, and whether one stands twice.
use Rattle.std.proofs.Common.{◌≡◌, ◌≢◌, ◌<◌, ℕ, List, [], ◌∷◌, length, sym, ◌∙◌, subst, arith, inl, inr}
use Rattle.std.specs.Prelude.{AllPairs, Bool, true, false, map, MatchBool, not, ◌⊎◌}
use Rattle.std.proofs.lemmas.List.{get_or-map, length-map}

module _ {X : Type 0} (name : X → List ℕ) where
  pub apart_names : (xs : List X) → AllPairs ◌≢◌ (map name xs) → AllPairs (λ a b. name a ≢ name b) xs
  apart_names xs apart i j d less below same =
      let within : j < length (map name xs) = omega (arith, length-map xs name, below) in
      let before : i < length xs = omega (arith, less, below) in
      apart i j (name d) less within (get_or-map name xs i d (name d) before ∙ same ∙ sym (get_or-map name xs j d (name d) below))

  pub names_apart : (xs : List X) → AllPairs (λ a b. name a ≢ name b) xs → AllPairs ◌≢◌ (map name xs)
  names_apart [] apart i j e less below same = absurd (omega (arith, below))
  names_apart (x ∷ xs) apart i j e less within same =
      let below : j < length (x ∷ xs) = omega (arith, length-map (x ∷ xs) name, within) in
      let before : i < length (x ∷ xs) = omega (arith, less, below) in
      apart i j x less below (sym (get_or-map name (x ∷ xs) i x e before) ∙ same ∙ get_or-map name (x ∷ xs) j x e below)

  pub distinct_names : (xs : List X) (names : List (List ℕ)) (distinct : Bool) → names ≡ map name xs → MatchBool distinct (AllPairs ◌≢◌ names) (¬ AllPairs ◌≢◌ names) →
      MatchBool distinct (AllPairs (λ a b. name a ≢ name b) xs) (¬ AllPairs (λ a b. name a ≢ name b) xs)
  distinct_names xs names true is apart = apart_names xs (subst (AllPairs ◌≢◌) is apart)
  distinct_names xs names false is twice = λ apart. twice (subst (AllPairs ◌≢◌) (sym is) (names_apart xs apart))

-- whether one of both stands twice
pub one_twice : (P Q : Type 0) (first : Bool) → first ≡ false → MatchBool first P (¬ P) → (¬ P) ⊎ (¬ Q)
one_twice P Q true e is = absurd (cc e)
one_twice P Q false e is = inl is

pub other_twice : (P Q : Type 0) (first second : Bool) → first ≡ true → MatchBool first P (¬ P) → MatchBool second Q (¬ Q) → MatchBool (not second) ((¬ P) ⊎ (¬ Q)) (¬ ((¬ P) ⊎ (¬ Q)))
other_twice P Q false second e is other = absurd (cc e)
other_twice P Q true false e is other = inr other
other_twice P Q true true e is other = neither
  where
    neither : ¬ ((¬ P) ⊎ (¬ Q))
    neither (inl fails) = fails is
    neither (inr fails) = fails other
