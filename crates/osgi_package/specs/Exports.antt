-- What the clauses of Export-Package mean, and what is wrong with one that means nothing.
use Rattle.std.specs.Prelude.{ℕ, ◌≡◌, true, List, [], ◌∷◌, ◌++◌, codes, filter, All}
use Rattle.std.specs.List.{AllZip, list_any}
use Rattle.osgi_base.specs.Verdict.{Gives, Verdict, Where}
use Rattle.osgi_header.specs.declared.clause.Clause.{Clause}
use Rattle.osgi_world.specs.declared.capability.Capability.{Capability}
use Rattle.osgi_model.specs.declared.value.Attribute.{Attribute}
use Rattle.osgi_model.specs.declared.value.Value.TheVariants.{Version as a_version}
use Rattle.osgi_version.specs.declared.version.Version.{Version}
use Rattle.osgi_version.specs.Versions.{IsReadableVersion, ReadsVersion}
use Rattle.osgi_version.specs.VersionValues.{parts}
use Rattle.osgi_package.specs.declared.fault.PackageFault.{PackageFault}
use Rattle.osgi_package.specs.declared.fault.PackageKind.{PackageKind}
use Rattle.osgi_package.specs.declared.fault.PackageKind.TheVariants.{BadValue, BadVersion, DoubleType, ImplicitAttribute, JavaExport}
use Rattle.osgi_package.specs.Faults.{AreGiven, IsFirstFault}
use Rattle.osgi_package.specs.Packages.{is_java, package_namespace}
use Rattle.osgi_package.specs.Parameters.{IsReadableAttribute, IsAttribute, Lists, directive_value, is_double, is_plain_attribute, is_implicit, version_text}

abbrev pub version_attribute : Version → Attribute
version_attribute version = record { name = codes "version"; value = a_version version }

-- the attributes of an exported package: the others in order, and then its version, whatever type the clause gives that
pub record AreExported (clause : Clause) (attributes : List Attribute) : Type 0 where
  pub version : Version
  pub others : List Attribute
  pub are : attributes ≡ others ++ version_attribute version ∷ []
  pub reads : ReadsVersion (version_text (codes "version") clause) (parts version)
  pub each : AllZip IsAttribute (filter is_plain_attribute clause.attributes) others

-- the capability that a clause makes for one of its packages
pub record IsExportOf (clause : Clause) (exported : List ℕ) (capability : Capability) : Type 0 where
  pub namespace : capability.namespace ≡ package_namespace
  pub name : capability.name ≡ exported
  pub attributes : AreExported clause capability.attributes
  pub uses : Lists (directive_value (codes "uses") clause) capability.uses
  pub mandatory : Lists (directive_value (codes "mandatory") clause) capability.mandatory

-- one capability for each package
abbrev pub AreExportsOf : Clause → List Capability → Type 0
AreExportsOf clause capabilities = AllZip (IsExportOf clause) clause.paths capabilities

-- the faults of a clause in order. A package may be exported more than once
abbrev pub export_faults : Clause → List (PackageKind → Type 0)
export_faults clause =
    Where BadVersion (¬ IsReadableVersion (version_text (codes "version") clause))
    ∷ Where DoubleType (list_any is_double clause.attributes ≡ true)
    ∷ Where BadValue (¬ All IsReadableAttribute clause.attributes)
    ∷ Where JavaExport (list_any is_java clause.paths ≡ true)
    ∷ Where ImplicitAttribute (list_any is_implicit clause.attributes ≡ true)
    ∷ []

-- a clause says its first fault, or else its capabilities, whatever clauses stand before it
abbrev pub SaysExports : List Clause → Clause → Verdict PackageKind (List Capability) → Type 0
SaysExports before clause = Gives (export_faults clause) (AreExportsOf clause)

-- the capabilities of all clauses, in order
abbrev pub AreExports : List Clause → List Capability → Type 0
AreExports = AreGiven SaysExports

-- the first fault of the first faulty clause
abbrev pub IsExportFault : List Clause → PackageFault → Type 0
IsExportFault = IsFirstFault SaysExports
