-- What headers of one clause say. No public promise speaks of this.
use Rattle.std.specs.Prelude.{◌≡◌, is_some, List, [], ◌∷◌, codes, Option, Some}
use Rattle.osgi_header.specs.declared.header.Header.{Header}
use Rattle.osgi_world.specs.declared.manifest_fault.ManifestFault.{ManifestFault}
use Rattle.osgi_world.specs.declared.manifest_fault.ManifestKind.TheVariants as fault
use Rattle.osgi_world.specs.declared.requirement.Requirement.{Requirement}
use Rattle.osgi_package.specs.Only.{IsOnly}
use Rattle.osgi_manifest.specs.Manifests.{AtStart, InHeader, InValue, IsEmptyHeader, has_host}
use Rattle.osgi_clause.specs.Faults.{host_faults, name_faults}
use Rattle.osgi_manifest.specs.Values.{AreClausesIn}
use Rattle.osgi_manifest.specs.computed.Answers.{IsMadeIn}
use Rattle.osgi_clause.specs.declared.naming.Naming.{Naming}
use Rattle.osgi_clause.specs.Lone.{IsLone, SaysNaming, SaysHost}

abbrev pub IsNamedAs : List Header → Naming → Type 0
IsNamedAs headers naming = IsMadeIn (IsLone SaysNaming) headers (codes "Bundle-SymbolicName") (Some naming)

abbrev pub name_conditions : List Header → List (ManifestFault → Type 0)
name_conditions headers =
    InHeader (codes "Bundle-SymbolicName") (AtStart fault.NoName (AreClausesIn headers (codes "Bundle-SymbolicName") []))
    ∷ InValue headers (codes "Bundle-SymbolicName") name_faults fault.BadName ∷ []

-- the host of the one clause, where the header is there
abbrev pub IsHostIn : List Header → Option Requirement → Type 0
IsHostIn headers host = IsOnly (IsMadeIn (IsLone SaysHost) headers (codes "Fragment-Host")) host × (is_some host ≡ has_host headers)

abbrev pub host_conditions : List Header → List (ManifestFault → Type 0)
host_conditions headers =
    InHeader (codes "Fragment-Host") (AtStart fault.BadClause (IsEmptyHeader headers (codes "Fragment-Host")))
    ∷ InValue headers (codes "Fragment-Host") host_faults fault.BadClause ∷ []
