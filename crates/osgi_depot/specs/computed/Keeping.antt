-- What is kept of what was found at a location.
use Rattle.std.specs.Prelude.{ℕ, ◌≡◌, [], IsSomeAnd}
use Rattle.osgi_base.specs.declared.folder.File.{File}
use Rattle.osgi_base.specs.declared.folder.Folder.{Folder}
use Rattle.osgi_manifest.specs.Manifests.{file_at, IsManifestFault, IsScriptOf, manifest_path, Means}
use Rattle.osgi_ops.specs.declared.depot.Stored.{Stored}
use Rattle.osgi_ops.specs.declared.depot.Stored.TheVariants as stored
use Rattle.osgi_outside.specs.declared.shelf.Found.{Found}
use Rattle.osgi_outside.specs.declared.shelf.Found.TheVariants as found
use Rattle.osgi_session.specs.declared.script.Script.{Script}

-- the revision that the folder means, with the text of its manifest, or the manifest's fault
abbrev pub IsMeant : Folder → Stored → Type 0
IsMeant folder (stored.Read revision manifest) =
    Means folder revision × IsSomeAnd (file_at manifest_path folder) (λ (file : File). manifest ≡ file.bytes)
IsMeant folder (stored.Bad fault) = IsManifestFault folder fault
IsMeant folder stored.NoFolder = ⊥
IsMeant folder (stored.TooLarge bytes files) = ⊥
IsMeant folder (stored.Failed before after) = ⊥
IsMeant folder stored.Skipped = ⊥

-- what is stored of an answer of the shelf, whose count of faults stood at one number before and at the other after it
abbrev pub IsKept : Found → ℕ → ℕ → Stored → Type 0
IsKept (found.Folder folder) before after kept = IsMeant folder kept
IsKept found.NoFolder before after kept = kept ≡ stored.NoFolder
IsKept (found.TooLarge bytes files) before after kept = kept ≡ stored.TooLarge bytes files
IsKept found.Failed before after kept = kept ≡ stored.Failed before after

-- the script of the revision that was read from the folder; without one it has no sections
abbrev pub IsScriptIn : Folder → Stored → Script → Type 0
IsScriptIn folder (stored.Read revision manifest) script = IsScriptOf folder revision.activator script
IsScriptIn folder _ script = script.sections ≡ []

-- the script of an answer of the shelf of which this is kept
abbrev pub IsScriptKept : Found → Stored → Script → Type 0
IsScriptKept (found.Folder folder) kept script = IsScriptIn folder kept script
IsScriptKept _ kept script = script.sections ≡ []
