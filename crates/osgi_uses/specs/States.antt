-- The state of a search: the world as it was given, and what was added since.
use Rattle.std.specs.Prelude.{List}
use Rattle.osgi_world.specs.Decisions.{Step}
use Rattle.osgi_world.specs.declared.wiring.Wiring.{Wiring}
use Rattle.osgi_world.specs.declared.world.Known.{Known}
use Rattle.osgi_space_rows.specs.Steps.{after_steps}

pub record SpacesState : Type 0 where
  pub known : List Known
  pub wirings : List Wiring
  -- the last one first
  pub steps : List Step

-- the wirings of the world with what the steps add
abbrev pub wirings_of : SpacesState → List Wiring
wirings_of state = after_steps state.wirings state.steps
