-- Rows when a row is added.
use Rattle.std.specs.Prelude.{ℕ, ◌<◌, List, [], ◌∷◌, ◌++◌, length}
use Rattle.osgi_world.specs.Decisions.{Step}
use Rattle.osgi_world.specs.declared.wiring.Wiring.{Wiring}
use Rattle.osgi_space_rows.specs.Agree.{AreRowsOf}
use Rattle.osgi_space_rows.specs.Names.{name_numbered}
use Rattle.osgi_space_rows.specs.Rows.{RowLists}
use Rattle.osgi_space_rows.specs.Steps.{step_wiring}
use Rattle.osgi_space_rows.specs.Worlds.{AreRowsIn, WorldLists}
use Rattle.osgi_space_rows.specs.declared.added.Added.{Added}
use Rattle.osgi_space_rows.specs.declared.added.Added.TheVariants.{Attachment as OfAttachment, Import as OfImport, Nothing, Required as OfRequired}

-- a package in the row is the number of a name
abbrev pub IsNumbered : List (List ℕ) → Added → Type 0
IsNumbered names (OfImport row) = row.imported < length names
IsNumbered names (OfRequired row) = Unit {0}
IsNumbered names (OfAttachment row) = Unit {0}
IsNumbered names Nothing = Unit {0}

-- with the step, rows of any wirings grow so
abbrev pub RowsAfter : WorldLists → Step → (RowLists → RowLists) → Type 0
RowsAfter world s grown = (W : List Wiring) → AreRowsIn world W → AreRowsOf world.known (W ++ step_wiring s ∷ []) (name_numbered world.names) (grown world.rows)
