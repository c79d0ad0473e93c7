-- One step fewer can be taken back.
use Rattle.std.proofs.Common.{◌≡◌, ℕ, ◌≤◌, ◌<◌, ◌-◌, List, [], ◌∷◌, length, refl, sym, subst, arith}
use Rattle.osgi_uses.specs.States.{SpacesState}
use Rattle.osgi_world.specs.Decisions.{Step}

at-most : (old new : SpacesState) (n : ℕ) (steps : List Step) → old.steps ≡ steps → 0 < n → n ≤ length steps → ((s : Step) (rest : List Step) → old.steps ≡ s ∷ rest → new ≡ record old { steps = rest }) → (n - 1) ≤ length new.steps
at-most old new n [] is pos most undone = absurd (omega (arith, pos, most))
at-most old new n (s ∷ rest) is pos most undone =
    subst (λ (state : SpacesState). (n - 1) ≤ length state.steps) (sym (undone s rest is)) (omega (arith, pos, most))

pub one-less : (old new : SpacesState) (n : ℕ) → 0 < n → n ≤ length old.steps → ((s : Step) (rest : List Step) → old.steps ≡ s ∷ rest → new ≡ record old { steps = rest }) → (n - 1) ≤ length new.steps
one-less old new n pos most undone = at-most old new n old.steps refl pos most undone
