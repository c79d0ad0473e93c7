-- The wires that decisions made.
use Rattle.std.specs.Prelude.{◌≡◌, ℕ, List, [], ◌∷◌, Option, None, Some, flat_map}
use Rattle.osgi_base.specs.declared.ids.RevisionId.{RevisionId}
use Rattle.osgi_space_rows.specs.Agree.{id}
use Rattle.osgi_world.specs.Decisions.{Made}
use Rattle.osgi_world.specs.DueDecisions.{members}
use Rattle.osgi_world.specs.Lists.{In}
use Rattle.osgi_world.specs.Partial.{partial}
use Rattle.osgi_world.specs.Wirings.{HasWire}
use Rattle.osgi_world.specs.declared.problem.Problem.{Problem}
use Rattle.osgi_world.specs.declared.wiring.Wire.{Wire}
use Rattle.osgi_resolver_path.specs.declared.course.Mark.{Mark}
use Rattle.osgi_resolver_path.specs.declared.step.Step.{Step}
use Rattle.osgi_resolver_path.specs.declared.step.Step.TheVariants.{Attached, Wired as WiredStep}
use Rattle.osgi_resolver_path.specs.declared.wired.Wired.{Wired}

-- the wire of a step, if the step is a wire
abbrev pub wired_by : Option Step → List Wired
wired_by None = []
wired_by (Some (Attached host fragment)) = []
wired_by (Some (WiredStep revision wire)) = record { revision = revision; wire = wire } ∷ []

-- the wires of these marks
abbrev pub wired_in : List Mark → List Wired
wired_in marks = flat_map (λ (m : Mark). wired_by m.step) marks

-- the revision of the number n is a member that has a wire to the provider
abbrev pub IsWiredTo : Problem → Made → RevisionId → ℕ → Type 0
IsWiredTo P D provider n = In (id n) (members P D) × ((w : Wire) × HasWire (partial P D) (id n) w × (w.capability.provider ≡ provider))
