-- Machines that read byte by byte: a step takes a state and a byte, and has no answer where no text goes on so.
use Rattle.std.specs.Prelude.{ℕ, Bool, not, ◌&&◌, if◌then◌else◌, List, [], ◌∷◌, Option, Some, None}
use Rattle.std.specs.Option.{option_and_then}

-- the state after a list of bytes
abbrev pub run : {S : Type 0} → (S → ℕ → Option S) → S → List ℕ → Option S
run step s [] = Some s
run step s (b ∷ bs) = option_and_then (λ t. run step t bs) (step s b)

-- a step which, where `strict`, has no answer either where the state after it is not fine
abbrev pub advance : {S : Type 0} → (S → Bool) → (S → ℕ → Option S) → Bool → S → ℕ → Option S
advance fine step strict s b = option_and_then (λ t. if strict && not (fine t) then None else Some t) (step s b)

-- what the bytes make of `a`, from the left
abbrev pub gather : {A : Type 0} → (A → ℕ → A) → A → List ℕ → A
gather f a [] = a
gather f a (b ∷ bs) = gather f (f a b) bs
