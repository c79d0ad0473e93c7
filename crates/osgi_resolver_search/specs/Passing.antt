-- Which values of the next decision a search may pass over.
use Rattle.std.specs.Prelude.{ℕ, ◌<◌, ◌≤◌, List, [], ◌∷◌, ◌++◌}
use Rattle.osgi_world.specs.Hopeless.{IsHopeless}
use Rattle.osgi_world.specs.declared.problem.Problem.{Problem}

-- with each value between, the first one counted, the word is hopeless
abbrev pub AreHopelessBetween : Problem → List ℕ → ℕ → ℕ → Type 0
AreHopelessBetween P w from upto = (v : ℕ) → from ≤ v → v < upto → IsHopeless P (w ++ v ∷ [])
