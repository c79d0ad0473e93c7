-- What is computed of a clause of Import-Package. No public promise speaks of this: it is proved to give what the definitions
-- say.
use Rattle.std.specs.Prelude.{ℕ, ◌≡◌, ◌≢◌, ◌⊎◌, not, true, false, Bool, List, [], ◌++◌, codes, filter, map, Option, None, Some, Result, Ok, Err, AllPairs, MatchBool, MatchOption}
use Rattle.std.specs.BTreeSet.{BTreeSet, contains}
use Rattle.std.specs.Cmp.Lexicographic.{slice_cmp}
use Rattle.std.specs.List.{list_any}
use Rattle.std.specs.Ordering.{nat_cmp}
use Rattle.std.specs.Str.{bytes_eq}
use Rattle.osgi_base.specs.Verdict.{answers, refuses}
use Rattle.osgi_header.specs.declared.clause.Clause.{Clause}
use Rattle.osgi_world.specs.declared.requirement.Requirement.{Requirement}
use Rattle.osgi_model.specs.declared.value.Attribute.{Attribute}
use Rattle.osgi_version.specs.declared.range.VersionRange.{VersionRange}
use Rattle.osgi_version.specs.Ranges.{IsReadableRange, ReadsRange}
use Rattle.osgi_version.specs.RangeValues.{range_parts}
use Rattle.osgi_package.specs.Only.{IsOnly}
use Rattle.osgi_package.specs.computed.AttributeReader.{attributes_of}
use Rattle.osgi_package.specs.declared.fault.PackageKind.{PackageKind}
use Rattle.osgi_package.specs.declared.fault.PackageKind.TheVariants.{BadVersion}
use Rattle.osgi_package.specs.Imports.{SaysImports}
use Rattle.osgi_package.specs.Packages.{is_java, package_namespace, packages}
use Rattle.osgi_package.specs.Parameters.{attribute_text, is_directed, version_text}

-- ---- ranges

-- the range that a text reads as, if it reads as one
abbrev pub IsRangeOf : List ℕ → Option VersionRange → Type 0
IsRangeOf text range = MatchOption range (¬ IsReadableRange text) (IsOnly (λ r. ReadsRange text (range_parts r)))

-- both ranges of a clause, if both texts read as ranges
abbrev pub AreRanges : Clause → Option (VersionRange × VersionRange) → Type 0
AreRanges clause None = (¬ IsReadableRange (version_text (codes "version") clause)) ⊎ (¬ IsReadableRange (version_text (codes "bundle-version") clause))
AreRanges clause (Some ranges) = IsRangeOf (version_text (codes "version") clause) (Some ranges.0) × IsRangeOf (version_text (codes "bundle-version") clause) (Some ranges.1)

-- ---- requirements

-- what a clause asks of each of its packages
abbrev pub template_of : Clause → VersionRange → VersionRange → List Attribute → Requirement
template_of clause range from_range equal = record {
  namespace = package_namespace;
  name = [];
  range = range;
  from_name = attribute_text (codes "bundle-symbolic-name") clause;
  from_range = from_range;
  equal = equal;
  filter = None;
  optional = is_directed (codes "resolution") (codes "optional") clause;
  multiple = false;
  reexport = false;
  effective = true;
}

abbrev pub template_with : Clause → VersionRange × VersionRange → Result (List Attribute) PackageKind → Result Requirement PackageKind
template_with clause ranges (Ok equal) = Ok (template_of clause ranges.0 ranges.1 equal)
template_with clause ranges (Err kind) = Err kind

abbrev pub template_by : Clause → Option (VersionRange × VersionRange) → Result Requirement PackageKind
template_by clause None = Err BadVersion
template_by clause (Some ranges) = template_with clause ranges (attributes_of clause)

-- what is asked of each package of a clause, or what is wrong with the clause besides its packages
abbrev pub IsTemplate : Clause → Result Requirement PackageKind → Type 0
IsTemplate clause answer = (ranges : Option (VersionRange × VersionRange)) × AreRanges clause ranges × (answer ≡ template_by clause ranges)

abbrev pub requirements_of : Requirement → List (List ℕ) → List Requirement
requirements_of template paths = map (λ path. record template { name = path }) (filter (λ path. not (is_java path)) paths)

-- ---- packages that were seen

-- the set has these packages, none of which stands twice
pub record AreSeen (seen : BTreeSet (List ℕ)) (before : List (List ℕ)) : Type 0 where
  pub has : (q : List ℕ) → contains (slice_cmp nat_cmp) seen q ≡ list_any (bytes_eq q) before
  pub apart : AllPairs ◌≢◌ before

-- whether more packages are new, and the set then has them too
abbrev pub AreNew : BTreeSet (List ℕ) → List (List ℕ) → Bool → Type 0
AreNew seen all new = MatchBool new (AreSeen seen all) (¬ AllPairs ◌≢◌ all)

-- ---- a clause

-- what a clause says after those before it: its fault; or it adds its requirements, and the set has its packages too
abbrev pub IsAdded : List Requirement → List Requirement → BTreeSet (List ℕ) → List Clause → Clause → Option PackageKind → Type 0
IsAdded old new seen before clause (Some kind) = IsOnly (SaysImports before clause) (refuses kind)
IsAdded old new seen before clause None =
    (others : List Requirement) × (new ≡ old ++ others) × IsOnly (SaysImports before clause) (answers others) × AreSeen seen (packages before ++ clause.paths)
