-- How the queue of a course stands to what is decided.
use Rattle.std.specs.Prelude.{◌≡◌, ℕ, ◌+◌, ◌<◌, ◌≤◌, ◌⊎◌, List, flat_map, length, take}
use Rattle.osgi_base.specs.declared.ids.RevisionId.{RevisionId}
use Rattle.osgi_world.specs.Decisions.{Decision, Made}
use Rattle.osgi_world.specs.DueDecisions.{due_decisions}
use Rattle.osgi_world.specs.declared.problem.Problem.{Problem}
use Rattle.osgi_resolver_path.specs.declared.opening.More.{More}

-- the queue is that of the members up to the one at place k, and those before it have made all their decisions
pub record IsOpened (P : Problem) (D : Made) (ids : List RevisionId) (qs : List Decision) (k : ℕ) : Type 0 where
  pub queue_is : qs ≡ flat_map (due_decisions P D) (take (k + 1) ids)
  pub done : length (flat_map (due_decisions P D) (take k ids)) ≤ length D
  pub within : length D ≤ length qs
  pub last_in : k < length ids

-- a decision is there, or no member is left
abbrev pub Waits : More → ℕ → Type 0
Waits more count = (0 < length more.decisions) ⊎ (more.last + 1 ≡ count)
