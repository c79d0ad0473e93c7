-- The queue of decisions, in the order in which they are made.
use Rattle.std.specs.Prelude.{◌≡◌, List, [], ◌∷◌, ◌++◌, None}
use Rattle.osgi_world.specs.Decisions.{Decision, Made, value_made}
use Rattle.osgi_world.specs.DueDecisions.{queue}
use Rattle.osgi_world.specs.Lists.{In}
use Rattle.osgi_world.specs.declared.problem.Problem.{Problem}

-- the decisions that are made, the first first
abbrev pub in_order : Made → List Decision
in_order [] = []
in_order (t ∷ D) = in_order D ++ t.0 ∷ []

-- the queue begins with the decisions that are made, in their order; those after them are open
pub record IsQueued (P : Problem) (D : Made) : Type 0 where
  pub rest : List Decision
  pub is : queue P D ≡ in_order D ++ rest
  pub open_rest : (d : Decision) → In d rest → value_made D d ≡ None
