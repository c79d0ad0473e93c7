-- The conditions and the facts of each step of reading a manifest. No public promise speaks of this.
use Rattle.std.specs.Prelude.{ℕ, ◌≡◌, ◌≢◌, ◌⊎◌, ⊤, List, [], ◌∷◌, codes, IsSomeAnd, Option, None, Some, Result, Ok, Err}
use Rattle.osgi_base.specs.declared.folder.Folder.{Folder}
use Rattle.osgi_header.specs.declared.clause.Clause.{Clause}
use Rattle.osgi_header.specs.declared.header.Header.{Header}
use Rattle.osgi_world.specs.declared.manifest_fault.ManifestFault.{ManifestFault}
use Rattle.osgi_world.specs.declared.manifest_fault.ManifestKind.{ManifestKind}
use Rattle.osgi_world.specs.declared.manifest_fault.ManifestKind.TheVariants as fault
use Rattle.osgi_version.specs.declared.version.Version.{Version}
use Rattle.osgi_version.specs.Versions.{IsReadableVersion, ReadsVersion}
use Rattle.osgi_version.specs.VersionValues.{parts}
use Rattle.osgi_package.specs.Only.{IsOnly}
use Rattle.osgi_package.specs.Exports.{AreExports}
use Rattle.osgi_package.specs.Imports.{AreImports}
use Rattle.osgi_script.specs.Scripts.{IsScript}
use Rattle.osgi_session.specs.declared.script.Script.{Script}
use Rattle.osgi_manifest.specs.computed.Answers.{IsMadeIn}
use Rattle.osgi_manifest.specs.computed.Lone.{IsHostIn, IsNamedAs}
use Rattle.osgi_manifest.specs.declared.members.Members.{Members}
use Rattle.osgi_manifest.specs.declared.said.Said.{Said}
use Rattle.osgi_manifest.specs.Manifests.{AtStart, InHeader, InValue, IsScriptOf, activator, class_file, file_at, own_version}
use Rattle.osgi_clause.specs.Faults.{bundle_faults, export_clause_faults, import_clause_faults, provided_faults, required_faults}
use Rattle.osgi_clause.specs.Members.{AreMade, IsRequired, IsRequiredBundle, AreProvided}
use Rattle.osgi_manifest.specs.Values.{header_value}

abbrev pub Anything : Unit {0} → Type 0
Anything read = ⊤

abbrev pub manifest_version_conditions : List Header → List (ManifestFault → Type 0)
manifest_version_conditions headers =
    InHeader (codes "Bundle-ManifestVersion") (AtStart fault.ManifestVersion (header_value (codes "Bundle-ManifestVersion") headers ≢ Some (codes "2"))) ∷ []

abbrev pub version_conditions : List Header → List (ManifestFault → Type 0)
version_conditions headers = InHeader (codes "Bundle-Version") (AtStart fault.BadVersion (¬ IsReadableVersion (own_version headers))) ∷ []

abbrev pub IsVersion : List Header → Version → Type 0
IsVersion headers = IsOnly (λ version. ReadsVersion (own_version headers) (parts version))

abbrev pub native_conditions : List Header → List (ManifestFault → Type 0)
native_conditions headers = InHeader (codes "Bundle-NativeCode") (AtStart fault.NativeCode (header_value (codes "Bundle-NativeCode") headers ≢ None)) ∷ []

-- the class that is the activator, and the only script that its file is
abbrev pub IsActivator : Folder → List Header → Option (List ℕ) × Script → Type 0
IsActivator folder headers found = (found.0 ≡ activator headers) × IsOnly (IsScriptOf folder (activator headers)) found.1

-- the only script that the file of the class is; or the folder has no such file, or that file is no script
abbrev pub IsClassScript : Folder → List ℕ → Result Script ManifestKind → Type 0
IsClassScript folder class (Ok script) = IsOnly (IsScriptOf folder (Some class)) script
IsClassScript folder class (Err kind) =
    (kind ≡ fault.NoScript) × (file_at (class_file class) folder ≡ None)
    ⊎ (kind ≡ fault.BadScript) × IsSomeAnd (file_at (class_file class) folder) (λ file. ¬ IsScript file.bytes)

abbrev pub activator_conditions : Folder → List Header → List (ManifestFault → Type 0)
activator_conditions folder headers =
    InHeader (codes "Bundle-Activator") (AtStart fault.NoScript (IsSomeAnd (activator headers) (λ class. file_at (class_file class) folder ≡ None)))
    ∷ InHeader (codes "Bundle-Activator")
    (AtStart fault.BadScript (IsSomeAnd (activator headers) (λ class. IsSomeAnd (file_at (class_file class) folder) (λ file. ¬ IsScript file.bytes))))
    ∷ []

-- ---- headers that ask for and offer

-- those of one header
abbrev pub section_conditions : List Header → List ℕ → (List Clause → Clause → List (ManifestKind → Type 0)) → List (ManifestFault → Type 0)
section_conditions headers name faults = InValue headers name faults fault.BadClause ∷ []

-- those of all of them, in order
abbrev pub member_conditions : List Header → List (ManifestFault → Type 0)
member_conditions headers =
    InValue headers (codes "Require-Bundle") bundle_faults fault.BadClause
    ∷ InValue headers (codes "Import-Package") import_clause_faults fault.BadClause
    ∷ InValue headers (codes "Export-Package") export_clause_faults fault.BadClause
    ∷ InValue headers (codes "Require-Capability") required_faults fault.BadClause
    ∷ InValue headers (codes "Provide-Capability") provided_faults fault.BadClause
    ∷ []

-- each list is what its header makes, and the only one that it makes
pub record AreMembers (headers : List Header) (members : Members) : Type 0 where
  pub bundles : IsOnly (IsMadeIn (AreMade IsRequiredBundle) headers (codes "Require-Bundle")) members.bundles
  pub imports : IsOnly (IsMadeIn AreImports headers (codes "Import-Package")) members.imports
  pub exports : IsOnly (IsMadeIn AreExports headers (codes "Export-Package")) members.exports
  pub required : IsOnly (IsMadeIn (AreMade IsRequired) headers (codes "Require-Capability")) members.required
  pub provided : IsOnly (IsMadeIn AreProvided headers (codes "Provide-Capability")) members.provided

-- ---- the whole manifest

-- each part is what the headers say, and the only one that they say
pub record IsSaid (folder : Folder) (headers : List Header) (said : Said) : Type 0 where
  pub naming : IsOnly (IsNamedAs headers) said.naming
  pub version : IsVersion headers said.version
  pub host : IsHostIn headers said.host
  pub members : AreMembers headers said.members
  pub activator : IsActivator folder headers (said.activator, said.script)
