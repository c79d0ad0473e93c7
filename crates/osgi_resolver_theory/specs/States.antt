-- What words come to: one decision after the other, each with a value of its own.
use Rattle.std.specs.Prelude.{◌≡◌, ℕ, ◌<◌, [], ◌∷◌, Some}
use Rattle.osgi_world.specs.Decisions.{Decision, Made, arity}
use Rattle.osgi_world.specs.DueDecisions.{next_decision}
use Rattle.osgi_world.specs.declared.problem.Problem.{Problem}

pub data State (P : Problem) : Made → Type 0 where
  start : State P []
  step : {D : Made} {d : Decision} {v : ℕ} → State P D → next_decision P D ≡ Some d → v < arity P d → State P ((d, v) ∷ D)
