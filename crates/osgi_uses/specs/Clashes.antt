-- The first clash of uses among settled revisions.
use Rattle.std.specs.Prelude.{◌↔◌, ℕ, List, map, Option, None, Some}
use Rattle.std.specs.List.Sorted.{IsStrictlyIncreasing}
use Rattle.osgi_base.specs.declared.ids.RevisionId.{RevisionId}
use Rattle.osgi_world.specs.Lists.{In}
use Rattle.osgi_world.specs.Sources.{Sources}
use Rattle.osgi_space.specs.Violations.{IsFirstViolation}
use Rattle.osgi_space.specs.declared.violation.Violation.{Violation}
use Rattle.osgi_uses.specs.States.{SpacesState, wirings_of}
use Rattle.osgi_uses.specs.declared.clash.Clash.{Clash}

-- the first violated clause of `uses` that comes from settled revisions alone, or none
abbrev pub IsFirstAmong : SpacesState → List RevisionId → Option Violation → Type 0
IsFirstAmong state settled first = IsFirstViolation state.known (wirings_of state) (λ r. In r settled) first

-- they are the revision's sources of the package, each once, rising
pub record AreSources (state : SpacesState) (r : RevisionId) (p : List ℕ) (sources : List RevisionId) : Type 0 where
  pub all : (x : RevisionId) → In x sources ↔ Sources state.known (wirings_of state) r p x
  pub rising : IsStrictlyIncreasing (map (λ (x : RevisionId). x.0) sources)

-- what is first violated, with the sources for the two revisions
pub record IsFirstClash (state : SpacesState) (settled : List RevisionId) (c : Clash) : Type 0 where
  pub seen_by : RevisionId
  pub first : IsFirstAmong state settled (Some (record { revision = c.revision; seen_by = seen_by; «package» = c.package }))
  pub ours : AreSources state c.revision c.package c.ours
  pub theirs : AreSources state seen_by c.package c.theirs

-- a clash where a clause is violated, and none where none is
abbrev pub IsClashAmong : SpacesState → List RevisionId → Option Clash → Type 0
IsClashAmong state settled None = IsFirstAmong state settled None
IsClashAmong state settled (Some c) = IsFirstClash state settled c
