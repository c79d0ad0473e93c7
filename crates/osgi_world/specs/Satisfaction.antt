-- When a capability satisfies a requirement, given the name and version of the revision that provides it.
use Rattle.std.specs.Prelude.{ℕ, ◌≡◌, ◌≢◌, ◌&&◌, Bool, false, IsTrue, IsSome, IfSome, is_none, bytes_eq, codes, List, ◌∷◌, ◌++◌, Option, Some, All}
use Rattle.std.specs.Option.{option_map_or}
use Rattle.osgi_version.specs.RangeValues.{is_within, range_parts}
use Rattle.osgi_version.specs.Ranges.{at_least_zero}
use Rattle.osgi_version.specs.VersionValues.{parts}
use Rattle.osgi_version.specs.Versions.{Parts, numbered}
use Rattle.osgi_version.specs.declared.range.VersionRange.{VersionRange}
use Rattle.osgi_version.specs.declared.version.Version.{Version}
use Rattle.osgi_model.specs.Matching.{OneOf, Matches, attribute_value}
use Rattle.osgi_world.specs.declared.capability.Capability.{Capability}
use Rattle.osgi_world.specs.declared.requirement.Requirement.{Requirement}
use Rattle.osgi_world.specs.declared.revision.Revision.{Revision}
use Rattle.osgi_model.specs.declared.value.Attribute.{Attribute}
use Rattle.osgi_model.specs.declared.value.Value.{Value}
use Rattle.osgi_model.specs.declared.value.Value.TheVariants as value

-- ---- namespaces

abbrev pub is_bundle : List ℕ → Bool
is_bundle namespace = bytes_eq namespace (codes "osgi.wiring.bundle")

abbrev pub is_package : List ℕ → Bool
is_package namespace = bytes_eq namespace (codes "osgi.wiring.package")

-- ---- versions

abbrev pub version_of : Option Value → Parts
version_of (Some (value.Version version)) = parts version
version_of _ = numbered 0 0 0

-- the attribute `version` where it is there as a Version, else 0.0.0
abbrev pub version_in : List Attribute → Parts
version_in attributes = version_of (attribute_value bytes_eq (codes "version") attributes)

abbrev pub Within : VersionRange → Parts → Type 0
Within range version = IsTrue (is_within (range_parts range) version)

-- ---- packages

-- a name other than the three for which an import has fields of their own
abbrev pub IsOrdinary : List ℕ → Type 0
IsOrdinary name = (name ≢ codes "version") × (name ≢ codes "bundle-version") × (name ≢ codes "bundle-symbolic-name")

-- the import gives an attribute of this name
pub data IsGiven (q : Requirement) : List ℕ → Type 0 where
  ordinary : {name : List ℕ} → IsOrdinary name → OneOf (λ (a : Attribute). a.name ≡ name) q.equal → IsGiven q name
  version : range_parts q.range ≢ at_least_zero → IsGiven q (codes "version")
  bundle_version : range_parts q.from_range ≢ at_least_zero → IsGiven q (codes "bundle-version")
  bundle_name : IsSome q.from_name → IsGiven q (codes "bundle-symbolic-name")

-- the export is one that the import may be wired to
pub record SatisfiesImport (q : Requirement) (c : Capability) (provider_name : List ℕ) (provider_version : Version) : Type 0 where
  pub version : Within q.range (version_in c.attributes)
  pub exporter : IfSome q.from_name (λ name. name ≡ provider_name)
  pub exporter_version : Within q.from_range (parts provider_version)
  -- each other attribute of the import is there with an equal value, and each name that is mandatory is given
  pub equal : All (λ (a : Attribute). attribute_value bytes_eq a.name c.attributes ≡ Some a.value) q.equal
  pub mandatory : All (IsGiven q) c.mandatory

-- ---- any namespace

-- namespace and name are the same; a bundle's version is within the range; an export is one that the import may be wired
-- to; and of any other namespace the filter, if there is one, matches the attributes, whose names are compared with case
pub record Satisfies (q : Requirement) (c : Capability) (provider_name : List ℕ) (provider_version : Version) : Type 0 where
  pub namespace : q.namespace ≡ c.namespace
  pub name : q.name ≡ c.name
  pub of_bundle : IsTrue (is_bundle q.namespace) → Within q.range (parts provider_version)
  pub of_package : IsTrue (is_package q.namespace) → SatisfiesImport q c provider_name provider_version
  pub of_other : ¬ IsTrue (is_bundle q.namespace) → ¬ IsTrue (is_package q.namespace) → IfSome q.filter (Matches bytes_eq c.attributes)

-- ---- dynamic imports

-- the packages for which a name in `DynamicImport-Package` stands: `*` for every one, `n.*` for those that begin with `n.`,
-- and any other name for itself
pub data StandsForPackage : List ℕ → List ℕ → Type 0 where
  every : {p : List ℕ} → StandsForPackage (codes "*") p
  prefixed : (name rest : List ℕ) → StandsForPackage (name ++ codes ".*") (name ++ 46 ∷ rest)
  itself : {p : List ℕ} → StandsForPackage p p

-- ---- hosts

-- the revision may be the host that is asked for: it has this name and a version in the range, permits fragments, and is no fragment
abbrev pub is_host_for : Requirement → Revision → Bool
is_host_for asked host = bytes_eq asked.name host.name && (is_within (range_parts asked.range) (parts host.version) && (host.attach && is_none host.host))

-- the first is a fragment, and the second may be its host
abbrev pub matches_host : Revision → Revision → Bool
matches_host fragment host = option_map_or (λ asked. is_host_for asked host) fragment.host false
