-- The faults of a clause in order, by the header that it is of.
use Rattle.std.specs.Prelude.{ℕ, ◌≡◌, ◌≢◌, ◌⊎◌, ◌<◌, ◌||◌, nat_eq, true, Bool, List, [], ◌∷◌, length, codes, All, IsSomeAnd, None}
use Rattle.std.specs.List.{AllPass, join_with_byte, list_any, starts_with}
use Rattle.std.specs.Str.{bytes_eq}
use Rattle.osgi_base.specs.Verdict.{Where, refuses}
use Rattle.osgi_header.specs.Headers.{is_header_name_byte}
use Rattle.osgi_header.specs.declared.clause.Clause.{Clause}
use Rattle.osgi_model.specs.Filters.{IsReadableFilter}
use Rattle.osgi_world.specs.declared.manifest_fault.ManifestKind.{ManifestKind}
use Rattle.osgi_world.specs.declared.manifest_fault.ManifestKind.TheVariants as fault
use Rattle.osgi_version.specs.Ranges.{IsReadableRange}
use Rattle.osgi_package.specs.declared.fault.PackageKind.{PackageKind}
use Rattle.osgi_package.specs.declared.fault.PackageKind.TheVariants as package_fault
use Rattle.osgi_package.specs.Exports.{SaysExports}
use Rattle.osgi_package.specs.Imports.{SaysImports}
use Rattle.osgi_package.specs.Parameters.{IsReadableAttribute, directive_value, is_double, version_text}
use Rattle.osgi_clause.specs.Directives.{Repeats}

-- a symbolic name: one or more letters, digits, `_` and `-`, and more such after each `.`
abbrev pub IsSymbolicName : List ℕ → Type 0
IsSymbolicName name = (texts : List (List ℕ)) × (0 < length texts) × All (λ t. (0 < length t) × AllPass is_header_name_byte t) texts × (name ≡ join_with_byte 46 texts)

abbrev pub IsNaming : Clause → Type 0
IsNaming clause = (name : List ℕ) × (clause.paths ≡ name ∷ []) × IsSymbolicName name

-- in a header of one clause the second is at fault, unless the first has a fault of its own
abbrev pub name_faults : List Clause → Clause → List (ManifestKind → Type 0)
name_faults before clause = Where fault.BadName ((before ≢ []) ⊎ (Repeats clause ⊎ (¬ IsNaming clause))) ∷ []

abbrev pub bad_versions : Clause → ManifestKind → Type 0
bad_versions clause = Where fault.BadRange (¬ IsReadableRange (version_text (codes "bundle-version") clause))

abbrev pub host_faults : List Clause → Clause → List (ManifestKind → Type 0)
host_faults before clause =
    Where fault.BadClause ((before ≢ []) ⊎ (Repeats clause ⊎ (¬ ((host : List ℕ) × (clause.paths ≡ host ∷ [])))))
    ∷ bad_versions clause
    ∷ Where fault.Extension (directive_value (codes "extension") clause ≢ None)
    ∷ []

abbrev pub bundle_faults : List Clause → Clause → List (ManifestKind → Type 0)
bundle_faults before clause = Where fault.BadClause (Repeats clause) ∷ bad_versions clause ∷ []

-- what a manifest calls the faults of its package headers; a version or range that is none is called this
abbrev pub kind_of : ManifestKind → PackageKind → ManifestKind
kind_of unversioned package_fault.Duplicate = fault.DuplicateImport
kind_of unversioned package_fault.JavaExport = fault.JavaExport
kind_of unversioned package_fault.ImplicitAttribute = fault.ImplicitAttribute
kind_of unversioned package_fault.BadVersion = unversioned
kind_of unversioned package_fault.BadValue = fault.BadValue
kind_of unversioned package_fault.DoubleType = fault.DoubleType

abbrev pub import_clause_faults : List Clause → Clause → List (ManifestKind → Type 0)
import_clause_faults before clause =
    Where fault.BadClause (Repeats clause) ∷ (λ kind. (p : PackageKind) × SaysImports before clause (refuses p) × (kind ≡ kind_of fault.BadRange p)) ∷ []

abbrev pub export_clause_faults : List Clause → Clause → List (ManifestKind → Type 0)
export_clause_faults before clause =
    Where fault.BadClause (Repeats clause) ∷ (λ kind. (p : PackageKind) × SaysExports before clause (refuses p) × (kind ≡ kind_of fault.BadVersion p)) ∷ []

-- `osgi.identity`, and every namespace that begins with `osgi.wiring.`
abbrev pub is_reserved : List ℕ → Bool
is_reserved namespace = bytes_eq namespace (codes "osgi.identity") || starts_with nat_eq namespace (codes "osgi.wiring.")

abbrev pub required_faults : List Clause → Clause → List (ManifestKind → Type 0)
required_faults before clause =
    Where fault.BadClause (Repeats clause)
    ∷ Where fault.BadFilter (IsSomeAnd (directive_value (codes "filter") clause) (λ text. ¬ IsReadableFilter text))
    ∷ Where fault.ReservedNamespace (list_any is_reserved clause.paths ≡ true)
    ∷ []

abbrev pub provided_faults : List Clause → Clause → List (ManifestKind → Type 0)
provided_faults before clause =
    Where fault.BadClause (Repeats clause)
    ∷ Where fault.DoubleType (list_any is_double clause.attributes ≡ true)
    ∷ Where fault.BadValue (¬ All IsReadableAttribute clause.attributes)
    ∷ Where fault.ReservedNamespace (list_any is_reserved clause.paths ≡ true)
    ∷ []
