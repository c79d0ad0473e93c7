-- The depot of a session with its scripts: which locations its lines name, and what comes of reading their folders.
use Rattle.std.specs.Prelude.{ℕ, ◌≡◌, ◌≤◌, if◌then◌else◌, List, [], ◌∷◌, Option, None, Some, All, IsSomeAnd, drop, map, take}
use Rattle.std.specs.List.{AllZip, filter_map}
use Rattle.osgi_base.specs.Texts.{is_among}
use Rattle.osgi_base.specs.declared.folder.File.{File}
use Rattle.osgi_base.specs.declared.folder.Folder.{Folder}
use Rattle.osgi_manifest.specs.Manifests.{file_at, IsManifestFault, IsMeaning, manifest_path}
use Rattle.osgi_ops.specs.Along.{along}
use Rattle.osgi_ops.specs.declared.depot.DepotRow.{DepotRow}
use Rattle.osgi_ops.specs.declared.depot.Stored.{Stored}
use Rattle.osgi_ops.specs.declared.depot.Stored.TheVariants as stored
use Rattle.osgi_ops.specs.declared.limits.TheConstants.{MAX_LOCATIONS}
use Rattle.osgi_outside.specs.Causes.{Rose}
use Rattle.osgi_outside.specs.Shelves.{IsAsTold, KeepsLimits, ShelfRow}
use Rattle.osgi_outside.specs.declared.shelf.Found.TheVariants as found
use Rattle.osgi_session.specs.declared.command.Command.TheVariants as command
use Rattle.osgi_session.specs.declared.line.Content.{Content}
use Rattle.osgi_session.specs.declared.line.Content.TheVariants.{Run}
use Rattle.osgi_session.specs.declared.line.Line.{Line}
use Rattle.osgi_session.specs.declared.script.Script.{Script}

-- ---- locations

-- the location that a line names, where its command installs or updates a bundle
abbrev pub location_in : Content → Option (List ℕ)
location_in (Run (command.Install location)) = Some location
location_in (Run (command.Update bundle location)) = Some location
location_in _ = None

-- the texts without those that stand earlier, too
abbrev pub firsts : List (List ℕ) → List (List ℕ)
firsts texts = along (λ before text. if is_among before text then [] else text ∷ []) [] texts

-- the locations that the lines name, each once, in order of first naming
abbrev pub locations_in : List Line → List (List ℕ)
locations_in lines = firsts (filter_map (λ (line : Line). location_in line.content) lines)

-- ---- what comes of reading a folder

-- the folder that was found at a location: it is within the limits, and it is the one that the shelf has there, if the shelf exposes that
pub record IsFoundAt (told : Option (List ShelfRow)) (location : List ℕ) (folder : Folder) : Type 0 where
  pub as_told : IsAsTold told location (found.Folder folder)
  pub within : KeepsLimits (found.Folder folder)

-- what is kept of a location, and the script of its bundle. Of a folder that means a revision: the revision with the text of its manifest,
-- and the revision's script, all of one folder. Else there is a script without sections, and it is kept what was found: the fault of the
-- folder's manifest; that there is no folder; that it is too large, with its bytes and files; that the read failed, and then the shelf's
-- count of faults rose from the first number to the second; or that the location was skipped
abbrev pub IsKeptAt : Option (List ShelfRow) → List ℕ → Stored → Script → Type 0
IsKeptAt told location (stored.Read revision manifest) script =
    (folder : Folder) × IsFoundAt told location folder × IsMeaning folder (record { revision = revision; script = script }) ×
    IsSomeAnd (file_at manifest_path folder) (λ (file : File). manifest ≡ file.bytes)
IsKeptAt told location (stored.Bad fault) script = ((folder : Folder) × IsFoundAt told location folder × IsManifestFault folder fault) × (script.sections ≡ [])
IsKeptAt told location stored.NoFolder script = IsAsTold told location found.NoFolder × (script.sections ≡ [])
IsKeptAt told location (stored.TooLarge bytes files) script = IsAsTold told location (found.TooLarge bytes files) × KeepsLimits (found.TooLarge bytes files) × (script.sections ≡ [])
IsKeptAt told location (stored.Failed before after) script = Rose before after × (script.sections ≡ [])
IsKeptAt told location stored.Skipped script = script.sections ≡ []

-- so it is of each row, with the script at its place
abbrev pub AreKeptAt : Option (List ShelfRow) → List DepotRow → List Script → Type 0
AreKeptAt told rows scripts = AllZip (λ (row : DepotRow) (script : Script). IsKeptAt told row.location row.stored script) rows scripts

-- ---- failed reads

-- the counts of faults before and after a read that failed
abbrev pub failure_of : Stored → Option (ℕ × ℕ)
failure_of (stored.Failed before after) = Some (before, after)
failure_of _ = None

-- the counts of all reads that failed, in order of the rows
abbrev pub failures : List DepotRow → List (ℕ × ℕ)
failures rows = filter_map (λ (row : DepotRow). failure_of row.stored) rows

-- one after another, within these two counts: the first begins at the one or above, none begins below the end of the one before it, and the
-- last ends at the other or below
abbrev pub AreWithin : ℕ → ℕ → List (ℕ × ℕ) → Type 0
AreWithin from to [] = from ≤ to
AreWithin from to (failure ∷ rest) = (from ≤ failure.0) × AreWithin failure.1 to rest

-- ---- the depot

-- the row's location was passed over
abbrev pub IsSkipped : DepotRow → Type 0
IsSkipped row = row.stored ≡ stored.Skipped

-- the rows and their scripts are the depot of these lines, read from a shelf that exposes these folders or none, while its count of faults
-- went from one number to the other: a row and a script for each location, in order; those up to the limit were read, and those beyond it
-- were skipped; and the reads that failed raised the count one after another
pub record IsDepotOf (lines : List Line) (told : Option (List ShelfRow)) (from to : ℕ) (rows : List DepotRow) (scripts : List Script) : Type 0 where
  pub locations : map (λ (row : DepotRow). row.location) rows ≡ locations_in lines
  pub kept : AreKeptAt told rows scripts
  pub read : All (λ row. ¬ IsSkipped row) (take MAX_LOCATIONS rows)
  pub skipped : All IsSkipped (drop MAX_LOCATIONS rows)
  pub failed : AreWithin from to (failures rows)
