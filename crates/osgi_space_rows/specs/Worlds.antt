-- Rows with the names of their packages, and the known revisions that they are of.
use Rattle.std.specs.Prelude.{◌≡◌, ℕ, ◌<◌, List, [], ◌∷◌, ◌++◌, length, All}
use Rattle.osgi_world.specs.Decisions.{Step}
use Rattle.osgi_world.specs.Lookups.{IsKnown}
use Rattle.osgi_world.specs.declared.wiring.Wiring.{Wiring}
use Rattle.osgi_world.specs.declared.world.Known.{Known}
use Rattle.osgi_space_rows.specs.Agree.{AreRowsOf, id}
use Rattle.osgi_space_rows.specs.Names.{AreOnce, name_numbered}
use Rattle.osgi_space_rows.specs.Rows.{OwnExport, RowLists, with_attachment, with_import, with_required}
use Rattle.osgi_space_rows.specs.Steps.{step_wiring}
use Rattle.osgi_space_rows.specs.declared.added.Added.{Added}
use Rattle.osgi_space_rows.specs.declared.added.Added.TheVariants.{Attachment as OfAttachment, Import as OfImport, Nothing, Required as OfRequired}
use Rattle.osgi_space_rows.specs.declared.named.Named.{Named}
use Rattle.osgi_space_rows.specs.declared.rows.Attachment.{Attachment}
use Rattle.osgi_space_rows.specs.declared.rows.Export.{Export}
use Rattle.osgi_space_rows.specs.declared.rows.Import.{Import}
use Rattle.osgi_space_rows.specs.declared.rows.Required.{Required}
use Rattle.osgi_space_rows.specs.declared.rows.Use.{Use}

-- what contracts see of `WorldRows`
pub record WorldLists : Type 0 where
  pub known : List Known
  pub names : List (List ℕ)
  pub rows : RowLists

-- packages in rows are numbers of names
pub record AreNumbered (names : List (List ℕ)) (R : RowLists) : Type 0 where
  pub imports : All (λ (row : Import). row.imported < length names) R.imports
  pub exports : All (λ (row : Export). row.exported < length names) R.exports
  pub uses : All (λ (row : Use). (row.exported < length names) × (row.used < length names)) R.uses

-- packages in the rows are numbers of names, and no name has two
pub record AreNamed (n : Named) : Type 0 where
  pub numbered : AreNumbered n.names n.rows
  pub once : AreOnce n.names

-- the rows are those of the wirings of what is known
abbrev pub AreRowsIn : WorldLists → List Wiring → Type 0
AreRowsIn world W = AreRowsOf world.known W (name_numbered world.names) world.rows

-- the rows with what was added
abbrev pub with_added : RowLists → Added → RowLists
with_added R (OfImport row) = with_import R row
with_added R (OfRequired row) = with_required R row
with_added R (OfAttachment row) = with_attachment R row
with_added R Nothing = R

-- the row is added, and rows of any wirings are those of the wirings with the step
pub record AddsStep (old new : WorldLists) (s : Step) (added : Added) : Type 0 where
  pub known : new.known ≡ old.known
  pub names : new.names ≡ old.names
  pub rows : new.rows ≡ with_added old.rows added
  pub numbered : AreNumbered new.names new.rows
  pub agree : (W : List Wiring) → AreRowsIn old W → AreRowsIn new (W ++ step_wiring s ∷ [])

-- what was added last is taken back
pub record TakesBack (old new : WorldLists) (added : Added) : Type 0 where
  pub known : new.known ≡ old.known
  pub names : new.names ≡ old.names
  pub rows : (R : RowLists) → old.rows ≡ with_added R added → new.rows ≡ R
  pub numbered : AreNumbered new.names new.rows

-- package wires and attachments are added after those that are there, and the exports stay
pub record AddsWires (old new : RowLists) : Type 0 where
  pub imports : (more : List Import) × (new.imports ≡ old.imports ++ more)
  pub required : (more : List Required) × (new.required ≡ old.required ++ more)
  pub attached : (more : List Attachment) × (new.attached ≡ old.attached ++ more)
  pub exports : new.exports ≡ old.exports

-- rows of any wirings are those of the wirings with these after them
pub record AddsWirings (old new : WorldLists) (V : List Wiring) : Type 0 where
  pub known : new.known ≡ old.known
  pub names : new.names ≡ old.names
  pub grown : AddsWires old.rows new.rows
  pub agree : (W : List Wiring) → AreRowsIn old W → AreRowsIn new (W ++ V)
  pub numbered : AreNumbered old.names old.rows → AreNumbered new.names new.rows

-- with more known than K, the rows are still those of W; wires and attachments stay, and no revision of K gets an export
pub record AddsKnown (K : List Known) (W : List Wiring) (old : Named) (new : WorldLists) : Type 0 where
  pub rows : AreRowsIn new W
  pub imports : new.rows.imports ≡ old.rows.imports
  pub required : new.rows.required ≡ old.rows.required
  pub attached : new.rows.attached ≡ old.rows.attached
  pub exports : (o p : ℕ) → IsKnown K (id o) → OwnExport new.rows o p → OwnExport old.rows o p
