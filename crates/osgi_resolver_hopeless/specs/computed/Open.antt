-- Members that are not decided, or not settled.
use Rattle.std.specs.Prelude.{◌↔◌, ℕ, IsTrue, List, Contains}
use Rattle.osgi_base.specs.declared.ids.RevisionId.{RevisionId}
use Rattle.osgi_space_rows.specs.Agree.{id}
use Rattle.osgi_space_rows.specs.declared.rows.Required.{Required}
use Rattle.osgi_world.specs.Decisions.{Made}
use Rattle.osgi_world.specs.DueDecisions.{members}
use Rattle.osgi_world.specs.Hopeless.{IsDecided, IsSettled}
use Rattle.osgi_world.specs.Lists.{In}
use Rattle.osgi_world.specs.Partial.{partial}
use Rattle.osgi_world.specs.Wirings.{Reexports}
use Rattle.osgi_world.specs.declared.problem.Problem.{Problem}

-- the list has the number
abbrev pub Has : List ℕ → ℕ → Type 0
Has set n = Contains set n

-- the set has exactly the members that are not decided
abbrev pub AreUndecided : Problem → Made → List ℕ → Type 0
AreUndecided P D set = (n : ℕ) → Has set n ↔ (In (id n) (members P D) × ¬ IsDecided P D (id n))

-- the set has exactly the members that are not settled
abbrev pub AreUnsettled : Problem → Made → List ℕ → Type 0
AreUnsettled P D set = (n : ℕ) → Has set n ↔ (In (id n) (members P D) × ¬ IsSettled P D (id n))

-- the row is that of a bundle which is reexported and not decided
abbrev pub IsOpenReexport : Problem → Made → Required → Type 0
IsOpenReexport P D row = IsTrue row.reexport × ¬ IsDecided P D (id row.provider)

-- r reexports a bundle that is not decided
pub record ReexportsOpen (P : Problem) (D : Made) (r : RevisionId) : Type 0 where
  pub bundle : RevisionId
  pub reexports : Reexports P.world.known (partial P D) r bundle
  pub undecided : ¬ IsDecided P D bundle
