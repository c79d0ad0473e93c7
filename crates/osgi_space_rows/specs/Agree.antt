-- When rows say what the wirings of known revisions say.
use Rattle.std.specs.Prelude.{◌≡◌, ℕ, ◌<◌, ◌↔◌, List}
use Rattle.osgi_base.specs.declared.ids.RevisionId.{RevisionId}
use Rattle.osgi_world.specs.Lists.{In}
use Rattle.osgi_world.specs.Lookups.{capability_count, used_packages}
use Rattle.osgi_world.specs.Wirings as wirings
use Rattle.osgi_world.specs.Wirings.{IsExport}
use Rattle.osgi_world.specs.declared.wiring.Wiring.{Wiring}
use Rattle.osgi_world.specs.declared.world.Known.{Known}
use Rattle.osgi_space_rows.specs.Rows.{RowLists, Imports, Requires, Reexports, Attaches, OwnExport, OwnUse}

-- the revision of this number
abbrev pub id : ℕ → RevisionId
id n = record { 0 = n }

-- an export of the package p stands at this place of its owner
abbrev pub ExportAt : List Known → RevisionId → ℕ → List ℕ → Type 0
ExportAt K owner index p = (index < capability_count K owner) × IsExport K owner index p

-- the rows hold the package wires, bundle wires, attachments, exports and uses of these wirings; the package numbered i has
-- the name N i
pub record AreRowsOf (K : List Known) (W : List Wiring) (N : ℕ → List ℕ) (R : RowLists) : Type 0 where
  pub names : (i j : ℕ) → N i ≡ N j → i ≡ j
  pub imports_to : (r p x : ℕ) → Imports R r p x → wirings.PackageWire K W (id r) (N p) (id x)
  pub imports_from : (r x : ℕ) (p : List ℕ) → wirings.PackageWire K W (id r) p (id x) → (i : ℕ) × (N i ≡ p) × Imports R r i x
  pub requires : (r x : ℕ) → Requires R r x ↔ wirings.BundleWire K W (id r) (id x)
  pub reexports : (r x : ℕ) → Reexports R r x ↔ wirings.Reexports K W (id r) (id x)
  pub attaches : (h f : ℕ) → Attaches R h f ↔ wirings.Attached W (id h) (id f)
  pub exports_to : (o p : ℕ) → OwnExport R o p → (index : ℕ) × ExportAt K (id o) index (N p)
  pub exports_from : (o index : ℕ) (p : List ℕ) → ExportAt K (id o) index p → (i : ℕ) × (N i ≡ p) × OwnExport R o i
  pub uses_to : (o p u : ℕ) → OwnUse R o p u → (index : ℕ) × ExportAt K (id o) index (N p) × In (N u) (used_packages K (id o) index)
  pub uses_from : (o index : ℕ) (p u : List ℕ) → ExportAt K (id o) index p → In u (used_packages K (id o) index) → (i j : ℕ) × (N i ≡ p) × (N j ≡ u) × OwnUse R o i j
