-- What the clauses of Import-Package mean, and what is wrong with one that means nothing.
use Rattle.std.specs.Prelude.{ℕ, ◌≡◌, ◌≢◌, ◌⊎◌, not, true, false, List, [], ◌∷◌, ◌++◌, codes, filter, None, All, AllPairs}
use Rattle.std.specs.List.{AllZip, list_any}
use Rattle.osgi_base.specs.Verdict.{Gives, Verdict, Where}
use Rattle.osgi_header.specs.declared.clause.Clause.{Clause}
use Rattle.osgi_world.specs.declared.requirement.Requirement.{Requirement}
use Rattle.osgi_version.specs.Ranges.{IsReadableRange, ReadsRange}
use Rattle.osgi_version.specs.RangeValues.{range_parts}
use Rattle.osgi_package.specs.declared.fault.PackageFault.{PackageFault}
use Rattle.osgi_package.specs.declared.fault.PackageKind.{PackageKind}
use Rattle.osgi_package.specs.declared.fault.PackageKind.TheVariants.{BadValue, BadVersion, DoubleType, Duplicate}
use Rattle.osgi_package.specs.Faults.{AreGiven, IsFirstFault}
use Rattle.osgi_package.specs.Packages.{is_java, package_namespace, packages}
use Rattle.osgi_package.specs.Parameters.{IsReadableAttribute, IsAttribute, attribute_text, is_directed, is_double, is_plain_attribute, version_text}

-- the requirement that a clause makes for one of its packages: the package in a version within this range, exported by a bundle of
-- this name, if one is given, in a version within that range, with equal values of all other attributes
pub record IsImport (clause : Clause) (imported : List ℕ) (requirement : Requirement) : Type 0 where
  pub namespace : requirement.namespace ≡ package_namespace
  pub name : requirement.name ≡ imported
  pub range : ReadsRange (version_text (codes "version") clause) (range_parts requirement.range)
  pub from_name : requirement.from_name ≡ attribute_text (codes "bundle-symbolic-name") clause
  pub from_range : ReadsRange (version_text (codes "bundle-version") clause) (range_parts requirement.from_range)
  pub equal : AllZip IsAttribute (filter is_plain_attribute clause.attributes) requirement.equal
  pub optional : requirement.optional ≡ is_directed (codes "resolution") (codes "optional") clause
  pub unfiltered : requirement.filter ≡ None
  pub single : requirement.multiple ≡ false
  pub private : requirement.reexport ≡ false
  pub effective : requirement.effective ≡ true

-- one requirement for each package that is none of Java
abbrev pub AreImportsOf : Clause → List Requirement → Type 0
AreImportsOf clause requirements = AllZip (IsImport clause) (filter (λ name. not (is_java name)) clause.paths) requirements

-- the faults of a clause in order, after the clauses before it. A package is imported twice also where it is one of Java
abbrev pub import_faults : List Clause → Clause → List (PackageKind → Type 0)
import_faults before clause =
    Where BadVersion ((¬ IsReadableRange (version_text (codes "version") clause)) ⊎ (¬ IsReadableRange (version_text (codes "bundle-version") clause)))
    ∷ Where DoubleType (list_any is_double clause.attributes ≡ true)
    ∷ Where BadValue (¬ All IsReadableAttribute clause.attributes)
    ∷ Where Duplicate (¬ AllPairs ◌≢◌ (packages before ++ clause.paths))
    ∷ []

-- a clause says its first fault, or else its requirements
abbrev pub SaysImports : List Clause → Clause → Verdict PackageKind (List Requirement) → Type 0
SaysImports before clause = Gives (import_faults before clause) (AreImportsOf clause)

-- the requirements of all clauses, in order
abbrev pub AreImports : List Clause → List Requirement → Type 0
AreImports = AreGiven SaysImports

-- the first fault of the first faulty clause
abbrev pub IsImportFault : List Clause → PackageFault → Type 0
IsImportFault = IsFirstFault SaysImports
