-- Rows as contracts see them, and what is looked up in them.
use Rattle.std.specs.Prelude.{ℕ, ◌==◌, ◌&&◌, Bool, true, List, [], ◌∷◌, ◌++◌, filter, Contains}
use Rattle.osgi_space_rows.specs.declared.rows.Attachment.{Attachment}
use Rattle.osgi_space_rows.specs.declared.rows.Export.{Export}
use Rattle.osgi_space_rows.specs.declared.rows.Import.{Import}
use Rattle.osgi_space_rows.specs.declared.rows.Required.{Required}
use Rattle.osgi_space_rows.specs.declared.rows.Rows.{Rows}
use Rattle.osgi_space_rows.specs.declared.rows.Use.{Use}

-- what contracts see of `Rows`: the list of the rows of each kind
abbrev pub RowLists : Type 0
RowLists = Rows

-- ---- look-ups

abbrev pub is_import : ℕ → ℕ → Import → Bool
is_import r p row = (row.revision == r) && (row.imported == p)

-- the wires of r for the package p
abbrev pub imports_for : RowLists → ℕ → ℕ → List Import
imports_for R r p = filter (is_import r p) R.imports

-- the wires of r for packages
abbrev pub imports_of : RowLists → ℕ → List Import
imports_of R r = filter (λ (row : Import). row.revision == r) R.imports

abbrev pub required_by : RowLists → ℕ → List Required
required_by R r = filter (λ (row : Required). row.revision == r) R.required

abbrev pub attached_to : RowLists → ℕ → List Attachment
attached_to R h = filter (λ (row : Attachment). row.host == h) R.attached

-- what an owner itself exports
abbrev pub exports_of : RowLists → ℕ → List Export
exports_of R o = filter (λ (row : Export). row.owner == o) R.exports

abbrev pub is_export : ℕ → ℕ → Export → Bool
is_export o p row = (row.owner == o) && (row.exported == p)

-- an owner's own exports of the package p
abbrev pub exports_for : RowLists → ℕ → ℕ → List Export
exports_for R o p = filter (is_export o p) R.exports

abbrev pub is_use : ℕ → ℕ → Use → Bool
is_use o p row = (row.owner == o) && (row.exported == p)

-- what an owner's own exports of the package p use
abbrev pub uses_for : RowLists → ℕ → ℕ → List Use
uses_for R o p = filter (is_use o p) R.uses

-- ---- facts

abbrev pub Imports : RowLists → ℕ → ℕ → ℕ → Type 0
Imports R r p x = Contains R.imports (record { revision = r; imported = p; provider = x })

abbrev pub Requires : RowLists → ℕ → ℕ → Type 0
Requires R r x = (reexport : Bool) × Contains R.required (record { revision = r; provider = x; reexport = reexport })

abbrev pub Reexports : RowLists → ℕ → ℕ → Type 0
Reexports R r x = Contains R.required (record { revision = r; provider = x; reexport = true })

abbrev pub Attaches : RowLists → ℕ → ℕ → Type 0
Attaches R h f = Contains R.attached (record { host = h; fragment = f })

abbrev pub OwnExport : RowLists → ℕ → ℕ → Type 0
OwnExport R o p = Contains R.exports (record { owner = o; exported = p })

abbrev pub OwnUse : RowLists → ℕ → ℕ → ℕ → Type 0
OwnUse R o p u = Contains R.uses (record { owner = o; exported = p; used = u })

-- ---- one row more

abbrev pub no_rows : RowLists
no_rows = record { imports = []; required = []; attached = []; exports = []; uses = [] }

abbrev pub with_import : RowLists → Import → RowLists
with_import R row = record R { imports = R.imports ++ row ∷ [] }

abbrev pub with_required : RowLists → Required → RowLists
with_required R row = record R { required = R.required ++ row ∷ [] }

abbrev pub with_attachment : RowLists → Attachment → RowLists
with_attachment R row = record R { attached = R.attached ++ row ∷ [] }

abbrev pub with_export : RowLists → Export → RowLists
with_export R row = record R { exports = R.exports ++ row ∷ [] }

abbrev pub with_use : RowLists → Use → RowLists
with_use R row = record R { uses = R.uses ++ row ∷ [] }
