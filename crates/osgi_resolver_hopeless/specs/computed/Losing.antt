-- Hosts that import what they export.
use Rattle.std.specs.Prelude.{◌≢◌, ℕ}
use Rattle.osgi_space_rows.specs.Rows.{RowLists, Imports, OwnExport}
use Rattle.osgi_space_rows.specs.declared.rows.Import.{Import}

-- the row goes to another revision, for a package that r exports itself
abbrev pub IsReplacing : RowLists → ℕ → Import → Type 0
IsReplacing R r row = (row.provider ≢ r) × OwnExport R r row.imported

-- r imports from elsewhere a package that it exports itself
abbrev pub ReplacesOwn : RowLists → ℕ → Type 0
ReplacesOwn R r = (p x : ℕ) × Imports R r p x × (x ≢ r) × OwnExport R r p
