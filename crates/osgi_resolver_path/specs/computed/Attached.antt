-- Attached fragments, by the rows of the wirings.
use Rattle.std.specs.Prelude.{◌≡◌, ◌↔◌, ℕ, List, Contains, Some}
use Rattle.osgi_base.specs.declared.ids.RevisionId.{RevisionId}
use Rattle.osgi_space_rows.specs.Agree.{id}
use Rattle.osgi_space_rows.specs.Rows.{Attaches, RowLists}
use Rattle.osgi_world.specs.Decisions.{Made, attaching, value_made}

-- the rows attach to the host exactly the fragments of which this is decided
abbrev pub AreAttached : RowLists → Made → RevisionId → Type 0
AreAttached R D h = (f : RevisionId) → Attaches R h.0 f.0 ↔ (value_made D (attaching h f) ≡ Some 0)

-- these are the numbers of the fragments of which it is decided
abbrev pub AreNumbers : List ℕ → Made → RevisionId → Type 0
AreNumbers numbers D h = (n : ℕ) → Contains numbers n ↔ (value_made D (attaching h (id n)) ≡ Some 0)
