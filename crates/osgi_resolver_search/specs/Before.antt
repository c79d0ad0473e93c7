-- Words that were not hopeless before their last decision.
use Rattle.std.specs.Prelude.{◌≡◌, ℕ, List, [], ◌∷◌, ◌++◌}
use Rattle.osgi_world.specs.Hopeless.{IsHopeless}
use Rattle.osgi_world.specs.declared.problem.Problem.{Problem}

-- the word without its last decision, if it has one, is not hopeless
abbrev pub IsHopefulBefore : Problem → List ℕ → Type 0
IsHopefulBefore P word = (w : List ℕ) (v : ℕ) → word ≡ w ++ v ∷ [] → ¬ IsHopeless P w
