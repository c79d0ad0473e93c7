-- What is computed of headers of one clause. No public promise speaks of this.
use Rattle.std.specs.Prelude.{ℕ, ◌≡◌, ◌⊎◌, if◌then◌else◌, is_some, List, [], ◌∷◌, codes, None, Option, Some, Result, Ok, Err}
use Rattle.osgi_header.specs.declared.clause.Clause.{Clause}
use Rattle.osgi_header.specs.declared.clause.ClauseAt.{ClauseAt}
use Rattle.osgi_world.specs.declared.manifest_fault.ManifestKind.{ManifestKind}
use Rattle.osgi_world.specs.declared.manifest_fault.ManifestKind.TheVariants as fault
use Rattle.osgi_world.specs.declared.requirement.Requirement.{Requirement}
use Rattle.osgi_package.specs.Only.{IsOnly}
use Rattle.osgi_package.specs.Parameters.{directive_value}
use Rattle.osgi_clause.specs.Faults.{IsNaming, IsSymbolicName, host_faults}
use Rattle.osgi_clause.specs.Directives.{Repeats}
use Rattle.osgi_clause.specs.ClauseFaults.{HasNone}
use Rattle.osgi_clause.specs.Walks.{IsTheFirst}
use Rattle.osgi_clause.specs.computed.Templates.{IsBundleOf, named_of}
use Rattle.osgi_clause.specs.declared.naming.Naming.{Naming}
use Rattle.osgi_clause.specs.declared.fault.ClauseFault.{ClauseFault}
use Rattle.osgi_clause.specs.Lone.{SaysNaming, SaysHost}

-- a second clause is at fault, where the first is not
abbrev pub lone_of : {A : Type 0} → List ClauseAt → ManifestKind → A → Result (Option A) ClauseFault
lone_of [] kind made = Ok (Some made)
lone_of (first ∷ []) kind made = Ok (Some made)
lone_of (first ∷ second ∷ rest) kind made = Err (record { kind = kind; at = second.at })

abbrev pub IsPathName : List (List ℕ) → Option (List ℕ) → Type 0
IsPathName paths None = ¬ ((name : List ℕ) × (paths ≡ name ∷ []) × IsSymbolicName name)
IsPathName paths (Some name) = (paths ≡ name ∷ []) × IsSymbolicName name

abbrev pub IsNamingOf : Clause → Option Naming → Type 0
IsNamingOf clause None = Repeats clause ⊎ (¬ IsNaming clause)
IsNamingOf clause (Some naming) = (¬ Repeats clause) × IsNaming clause × SaysNaming clause naming

-- what a first clause asks of its host, or its first fault
abbrev pub IsHostMade : Clause → Result Requirement ManifestKind → Type 0
IsHostMade clause (Ok host) = HasNone (host_faults [] clause) × IsOnly (SaysHost clause) host
IsHostMade clause (Err kind) = IsTheFirst (host_faults [] clause) kind

-- the bundle that is asked for, which is no extension
abbrev pub host_by : Clause → List ℕ → Option Requirement → Result Requirement ManifestKind
host_by clause path None = Err fault.BadRange
host_by clause path (Some bundle) = if is_some (directive_value (codes "extension") clause) then Err fault.Extension else Ok (named_of bundle path)

abbrev pub IsHostBy : Clause → List ℕ → Result Requirement ManifestKind → Type 0
IsHostBy clause path made = (bundle : Option Requirement) × IsBundleOf clause bundle × (made ≡ host_by clause path bundle)
