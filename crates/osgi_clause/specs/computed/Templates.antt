-- What is computed of a clause before it is known for which path. No public promise speaks of this.
use Rattle.std.specs.Prelude.{ℕ, ◌≡◌, true, false, List, [], codes, All, IsSomeAnd, Option, None, Some, Result, Ok, Err}
use Rattle.std.specs.List.{AllZip, list_any}
use Rattle.osgi_header.specs.declared.clause.Clause.{Clause}
use Rattle.osgi_model.specs.Filters.{IsReadableFilter}
use Rattle.osgi_world.specs.declared.capability.Capability.{Capability}
use Rattle.osgi_model.specs.declared.filter.Filter.{Filter}
use Rattle.osgi_world.specs.declared.manifest_fault.ManifestKind.{ManifestKind}
use Rattle.osgi_world.specs.declared.manifest_fault.ManifestKind.TheVariants.{BadFilter, BadValue, DoubleType}
use Rattle.osgi_world.specs.declared.requirement.Requirement.{Requirement}
use Rattle.osgi_model.specs.declared.value.Attribute.{Attribute}
use Rattle.osgi_version.specs.declared.range.VersionRange.{VersionRange}
use Rattle.osgi_version.specs.Ranges.{IsReadableRange, ReadsRange}
use Rattle.osgi_version.specs.RangeValues.{range_parts}
use Rattle.osgi_package.specs.Only.{IsOnly}
use Rattle.osgi_package.specs.computed.ImportReader.{IsRangeOf}
use Rattle.osgi_package.specs.Parameters.{IsReadableAttribute, IsAttribute, is_directed, is_double, version_text}
use Rattle.osgi_clause.specs.Members.{IsFilterOf, bundle_namespace}
use Rattle.osgi_clause.specs.Directives.{takes_part}

abbrev pub IsAnyRange : VersionRange → Type 0
IsAnyRange = IsOnly (λ range. ReadsRange [] (range_parts range))

-- ---- bundles

abbrev pub bundle_of : VersionRange → VersionRange → Requirement
bundle_of range from_range = record {
  namespace = bundle_namespace;
  name = [];
  range = range;
  from_name = None;
  from_range = from_range;
  equal = [];
  filter = None;
  optional = false;
  multiple = false;
  reexport = false;
  effective = true;
}

abbrev pub named_of : Requirement → List ℕ → Requirement
named_of requirement name = record requirement { name = name }

abbrev pub directed_of : Clause → Requirement → Requirement
directed_of clause bundle = record bundle {
  optional = is_directed (codes "resolution") (codes "optional") clause;
  reexport = is_directed (codes "visibility") (codes "reexport") clause;
}

-- it asks for a version in the clause's range, and has no other condition
pub record IsBundleIn (clause : Clause) (bundle : Requirement) : Type 0 where
  pub range : VersionRange
  pub any : VersionRange
  pub is_range : IsRangeOf (version_text (codes "bundle-version") clause) (Some range)
  pub is_any : IsAnyRange any
  pub is : bundle ≡ bundle_of range any

-- what a clause asks of the bundle that it names
abbrev pub IsBundleOf : Clause → Option Requirement → Type 0
IsBundleOf clause None = ¬ IsReadableRange (version_text (codes "bundle-version") clause)
IsBundleOf clause (Some bundle) = IsBundleIn clause bundle

-- ---- requirements

abbrev pub required_of : Clause → Option Filter → VersionRange → VersionRange → Requirement
required_of clause filter range from_range = record {
  namespace = [];
  name = [];
  range = range;
  from_name = None;
  from_range = from_range;
  equal = [];
  filter = filter;
  optional = is_directed (codes "resolution") (codes "optional") clause;
  multiple = is_directed (codes "cardinality") (codes "multiple") clause;
  reexport = false;
  effective = takes_part clause;
}

abbrev pub required_in : Requirement → List ℕ → Requirement
required_in requirement namespace = record requirement { namespace = namespace; name = namespace }

-- the filter that a directive gives, if there is one; or its text reads as none
abbrev pub IsFilterRead : Option (List ℕ) → Result (Option Filter) ManifestKind → Type 0
IsFilterRead given (Ok filter) = (¬ IsSomeAnd given (λ text. ¬ IsReadableFilter text)) × IsOnly (IsFilterOf given) filter
IsFilterRead given (Err kind) = (kind ≡ BadFilter) × IsSomeAnd given (λ text. ¬ IsReadableFilter text)

-- ---- capabilities

abbrev pub provided_of : List Attribute → Capability
provided_of attributes = record { namespace = []; name = []; attributes = attributes; uses = []; mandatory = [] }

abbrev pub provided_in : Capability → List ℕ → Capability
provided_in capability namespace = record capability { namespace = namespace; name = namespace }

-- the values of all attributes, or what is wrong with them
pub data AreAttributesRead (clause : Clause) : Result (List Attribute) ManifestKind → Type 0 where
  double : list_any is_double clause.attributes ≡ true → AreAttributesRead clause (Err DoubleType)
  bad : list_any is_double clause.attributes ≡ false → ¬ All IsReadableAttribute clause.attributes → AreAttributesRead clause (Err BadValue)
  good : {attributes : List Attribute} → list_any is_double clause.attributes ≡ false → All IsReadableAttribute clause.attributes → IsOnly (AllZip IsAttribute clause.attributes) attributes →
      AreAttributesRead clause (Ok attributes)
