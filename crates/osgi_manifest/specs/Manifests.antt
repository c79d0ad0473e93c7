-- What a bundle's folder means, header by header, and its first fault in the order of the headers.
use Rattle.std.specs.Prelude.{ℕ, ◌≡◌, ◌≢◌, ◌==◌, not, if◌then◌else◌, Bool, List, [], ◌∷◌, ◌++◌, codes, filter, find, map, IsSomeAnd, Option, None, Some, is_some, unwrap_or}
use Rattle.std.specs.Str.{bytes_eq}
use Rattle.osgi_base.specs.declared.folder.File.{File}
use Rattle.osgi_base.specs.declared.folder.Folder.{Folder}
use Rattle.osgi_base.specs.Verdict.{Gives, Verdict, answers, refuses}
use Rattle.osgi_header.specs.Clauses.{AreClausesOf}
use Rattle.osgi_header.specs.Headers.{AreHeadersOf, IsHeaderFault}
use Rattle.osgi_header.specs.declared.clause.Clause.{Clause}
use Rattle.osgi_header.specs.declared.fault.HeaderFault.{HeaderFault}
use Rattle.osgi_header.specs.declared.header.Header as header
use Rattle.osgi_world.specs.declared.capability.Capability.{Capability}
use Rattle.osgi_world.specs.declared.manifest_fault.ManifestFault.{ManifestFault}
use Rattle.osgi_world.specs.declared.manifest_fault.ManifestKind.{ManifestKind}
use Rattle.osgi_world.specs.declared.manifest_fault.ManifestKind.TheVariants as fault
use Rattle.osgi_world.specs.declared.requirement.Requirement.{Requirement}
use Rattle.osgi_world.specs.declared.revision.Revision.{Revision}
use Rattle.osgi_version.specs.Versions.{IsReadableVersion, ReadsVersion}
use Rattle.osgi_version.specs.VersionValues.{parts}
use Rattle.osgi_package.specs.Exports.{AreExports}
use Rattle.osgi_package.specs.Imports.{AreImports}
use Rattle.osgi_package.specs.Parameters.{is_directed}
use Rattle.osgi_script.specs.Scripts.{IsScript, ReadsScript}
use Rattle.osgi_session.specs.declared.script.Script.{Script}
use Rattle.osgi_manifest.specs.declared.meaning.Meaning.{Meaning}
use Rattle.osgi_manifest.specs.ValueFaults.{IsValueFault}
use Rattle.osgi_clause.specs.Members.{AreMade, bundle_namespace, IsHost, IsProvided, IsRequired, IsRequiredBundle}
use Rattle.osgi_manifest.specs.Values.{AreClausesIn, header_value}
use Rattle.osgi_clause.specs.Directives.{takes_part}
use Rattle.osgi_clause.specs.Faults.{bundle_faults, export_clause_faults, host_faults, import_clause_faults, name_faults, provided_faults, required_faults}

-- ---- files

abbrev pub file_at : List ℕ → Folder → Option File
file_at path folder = find (λ (f : File). bytes_eq f.path path) folder.files

-- the file of an activator's class `a.b.C`
abbrev pub class_file : List ℕ → List ℕ
class_file class = map (λ b. if b == 46 then 47 else b) class ++ codes ".osc"

-- the script of a bundle whose activator is this class: the one that the file of the class reads as. Without an activator it has no sections
abbrev pub IsScriptOf : Folder → Option (List ℕ) → Script → Type 0
IsScriptOf folder None script = script.sections ≡ []
IsScriptOf folder (Some class) script = IsSomeAnd (file_at (class_file class) folder) (λ file. ReadsScript file.bytes script)

-- ---- the faults of a manifest, in the order of the headers

-- the fault stands in this header
abbrev pub InHeader : List ℕ → (ManifestKind → ℕ → Type 0) → ManifestFault → Type 0
InHeader name Has found = (found.header ≡ name) × Has found.kind found.at

-- a fault of the header as a whole, as one that is missing or has no clauses, stands at 0
abbrev pub AtStart : ManifestKind → Type 0 → ManifestKind → ℕ → Type 0
AtStart called fact kind at = (kind ≡ called) × (at ≡ 0) × fact

-- the first faulty clause of the header's value, if the header is there; `outside` is the kind of one outside the grammar
abbrev pub InValue : List header.Header → List ℕ → (List Clause → Clause → List (ManifestKind → Type 0)) → ManifestKind → ManifestFault → Type 0
InValue headers name faults outside = InHeader name (λ kind at. IsSomeAnd (header_value name headers) (λ value. IsValueFault faults outside value kind at))

-- the header is there, and has no clauses
abbrev pub IsEmptyHeader : List header.Header → List ℕ → Type 0
IsEmptyHeader headers name = IsSomeAnd (header_value name headers) (λ value. AreClausesOf value [])

-- ---- what the folder means

abbrev pub has_host : List header.Header → Bool
has_host headers = is_some (header_value (codes "Fragment-Host") headers)

abbrev pub activator : List header.Header → Option (List ℕ)
activator headers = if has_host headers then None else header_value (codes "Bundle-Activator") headers

abbrev pub own_version : List header.Header → List ℕ
own_version headers = unwrap_or (header_value (codes "Bundle-Version") headers) []

abbrev pub manifest_faults : Folder → List header.Header → List (ManifestFault → Type 0)
manifest_faults folder headers =
    InHeader (codes "Bundle-ManifestVersion") (AtStart fault.ManifestVersion (header_value (codes "Bundle-ManifestVersion") headers ≢ Some (codes "2")))
    ∷ InHeader (codes "Bundle-SymbolicName") (AtStart fault.NoName (AreClausesIn headers (codes "Bundle-SymbolicName") []))
    ∷ InValue headers (codes "Bundle-SymbolicName") name_faults fault.BadName
    ∷ InHeader (codes "Bundle-Version") (AtStart fault.BadVersion (¬ IsReadableVersion (own_version headers)))
    ∷ InHeader (codes "Fragment-Host") (AtStart fault.BadClause (IsEmptyHeader headers (codes "Fragment-Host")))
    ∷ InValue headers (codes "Fragment-Host") host_faults fault.BadClause
    ∷ InValue headers (codes "Require-Bundle") bundle_faults fault.BadClause
    ∷ InValue headers (codes "Import-Package") import_clause_faults fault.BadClause
    ∷ InValue headers (codes "Export-Package") export_clause_faults fault.BadClause
    ∷ InValue headers (codes "Require-Capability") required_faults fault.BadClause
    ∷ InValue headers (codes "Provide-Capability") provided_faults fault.BadClause
    ∷ InHeader (codes "Bundle-Activator") (AtStart fault.NoScript (IsSomeAnd (activator headers) (λ class. file_at (class_file class) folder ≡ None)))
    ∷ InHeader (codes "Bundle-Activator")
    (AtStart fault.BadScript (IsSomeAnd (activator headers) (λ class. IsSomeAnd (file_at (class_file class) folder) (λ file. ¬ IsScript file.bytes))))
    ∷ InHeader (codes "Bundle-NativeCode") (AtStart fault.NativeCode (header_value (codes "Bundle-NativeCode") headers ≢ None))
    ∷ []

-- what Bundle-SymbolicName says
pub record SaysName (headers : List header.Header) (revision : Revision) : Type 0 where
  pub clause : Clause
  pub one : AreClausesIn headers (codes "Bundle-SymbolicName") (clause ∷ [])
  pub name : clause.paths ≡ revision.name ∷ []
  pub singleton : revision.singleton ≡ is_directed (codes "singleton") (codes "true") clause
  pub attach : revision.attach ≡ not (is_directed (codes "fragment-attachment") (codes "never") clause)

-- the one clause and the one path of a fragment's host
pub record IsHosted (value : List ℕ) (host : Option Requirement) : Type 0 where
  pub clause : Clause
  pub path : List ℕ
  pub requirement : Requirement
  pub one : AreClausesOf value (clause ∷ [])
  pub one_path : clause.paths ≡ path ∷ []
  pub is : IsHost clause path requirement
  pub host_is : host ≡ Some requirement

abbrev pub HasHost : Option (List ℕ) → Option Requirement → Type 0
HasHost None host = host ≡ None
HasHost (Some value) host = IsHosted value host

-- the bundle itself
pub record IsOwn (symbolic_name : List ℕ) (capability : Capability) : Type 0 where
  pub namespace : capability.namespace ≡ bundle_namespace
  pub name : capability.name ≡ symbolic_name
  pub no_attributes : capability.attributes ≡ []
  pub no_uses : capability.uses ≡ []
  pub no_mandatory : capability.mandatory ≡ []

-- a bundle that is no fragment offers itself
abbrev pub AreOwn : Option Requirement → List ℕ → List Capability → Type 0
AreOwn None name own = (capability : Capability) × IsOwn name capability × (own ≡ capability ∷ [])
AreOwn (Some host) name own = own ≡ []

-- the bundle itself, then its packages, then what else it provides that takes part in resolving
pub record HasCapabilities (headers : List header.Header) (revision : Revision) : Type 0 where
  pub export_clauses : List Clause
  pub provided_clauses : List Clause
  pub own : List Capability
  pub exports : List Capability
  pub provided : List Capability
  pub in_exports : AreClausesIn headers (codes "Export-Package") export_clauses
  pub in_provided : AreClausesIn headers (codes "Provide-Capability") provided_clauses
  pub are_own : AreOwn revision.host revision.name own
  pub are_exports : AreExports export_clauses exports
  pub are_provided : AreMade IsProvided (filter takes_part provided_clauses) provided
  pub are : revision.capabilities ≡ own ++ (exports ++ provided)

-- required bundles, then imports, then others
pub record HasRequirements (headers : List header.Header) (revision : Revision) : Type 0 where
  pub bundle_clauses : List Clause
  pub import_clauses : List Clause
  pub required_clauses : List Clause
  pub bundles : List Requirement
  pub imports : List Requirement
  pub required : List Requirement
  pub in_bundles : AreClausesIn headers (codes "Require-Bundle") bundle_clauses
  pub in_imports : AreClausesIn headers (codes "Import-Package") import_clauses
  pub in_required : AreClausesIn headers (codes "Require-Capability") required_clauses
  pub are_bundles : AreMade IsRequiredBundle bundle_clauses bundles
  pub are_imports : AreImports import_clauses imports
  pub are_required : AreMade IsRequired required_clauses required
  pub are : revision.requirements ≡ bundles ++ (imports ++ required)

pub record IsRevisionOf (folder : Folder) (headers : List header.Header) (revision : Revision) : Type 0 where
  pub named : SaysName headers revision
  pub version : ReadsVersion (own_version headers) (parts revision.version)
  pub host : HasHost (header_value (codes "Fragment-Host") headers) revision.host
  pub activator_is : revision.activator ≡ activator headers
  pub capabilities : HasCapabilities headers revision
  pub requirements : HasRequirements headers revision
  pub no_dynamics : revision.dynamics ≡ []
  pub not_lazy : revision.lazy ≡ None
  pub files : revision.files ≡ map (λ (f : File). f.path) folder.files

abbrev pub manifest_path : List ℕ
manifest_path = codes "META-INF/MANIFEST.MF"

-- a folder says that it has no manifest, or the fault of the manifest's lines, or the first fault of its headers, or else a revision
pub data SaysManifest (folder : Folder) : Verdict ManifestFault Revision → Type 0 where
  missing : file_at manifest_path folder ≡ None → SaysManifest folder (refuses (record { header = []; kind = fault.NoManifest; at = 0 }))
  lines : {file : File} {found : HeaderFault} → file_at manifest_path folder ≡ Some file → IsHeaderFault file.bytes found →
      SaysManifest folder (refuses (record { header = []; kind = fault.Header; at = found.at }))
  headers : {file : File} {headers : List header.Header} {verdict : Verdict ManifestFault Revision} → file_at manifest_path folder ≡ Some file →
      AreHeadersOf file.bytes headers → Gives (manifest_faults folder headers) (IsRevisionOf folder headers) verdict → SaysManifest folder verdict

-- the revision that a folder means
abbrev pub Means : Folder → Revision → Type 0
Means folder revision = SaysManifest folder (answers revision)

-- the revision that a folder means, and its script
pub record IsMeaning (folder : Folder) (meaning : Meaning) : Type 0 where
  pub means : Means folder meaning.revision
  pub script : IsScriptOf folder meaning.revision.activator meaning.script

-- the fault of a folder that means nothing
abbrev pub IsManifestFault : Folder → ManifestFault → Type 0
IsManifestFault folder found = SaysManifest folder (refuses found)
