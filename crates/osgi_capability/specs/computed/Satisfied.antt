-- Whether a capability satisfies a requirement, as it is computed.
use Rattle.std.specs.Prelude.{ℕ, ◌==◌, ◌&&◌, if◌then◌else◌, not, Bool, true, false, List, [], codes, bytes_eq, is_none, is_some, Option}
use Rattle.std.specs.List.{list_all, list_any}
use Rattle.std.specs.Option.{option_map_or}
use Rattle.osgi_version.specs.RangeValues.{is_within, range_parts}
use Rattle.osgi_version.specs.Ranges.{RangeParts}
use Rattle.osgi_version.specs.VersionValues.{parts}
use Rattle.osgi_version.specs.Versions.{Parts}
use Rattle.osgi_version.specs.declared.version.Version.{Version}
use Rattle.osgi_model.specs.Comparing.{value_eq}
use Rattle.osgi_model.specs.Matching.{attribute_value}
use Rattle.osgi_world.specs.Satisfaction.{is_bundle, is_package, version_in}
use Rattle.osgi_model.specs.computed.MatchReader.{matches}
use Rattle.osgi_world.specs.declared.capability.Capability.{Capability}
use Rattle.osgi_model.specs.declared.filter.Filter.{Filter}
use Rattle.osgi_world.specs.declared.requirement.Requirement.{Requirement}
use Rattle.osgi_model.specs.declared.value.Attribute.{Attribute}

abbrev pub has_equal : List Attribute → Attribute → Bool
has_equal attributes asked = option_map_or (λ value. value_eq value asked.value) (attribute_value bytes_eq asked.name attributes) false

abbrev pub all_equal : List Attribute → List Attribute → Bool
all_equal attributes asked = list_all (has_equal attributes) asked

abbrev pub is_listed : List Attribute → List ℕ → Bool
is_listed attributes name = list_any (λ (attribute : Attribute). bytes_eq attribute.name name) attributes

-- the version 0.0.0
abbrev pub is_zero : Parts → Bool
is_zero version = (version.major == 0) && ((version.minor == 0) && ((version.micro == 0) && bytes_eq version.qualifier []))

abbrev pub is_at_least_zero : RangeParts → Bool
is_at_least_zero range = is_zero range.low && (range.low_in && (is_none range.high && not range.high_in))

abbrev pub is_given : Requirement → List ℕ → Bool
is_given q name =
    if bytes_eq name (codes "version") then not (is_at_least_zero (range_parts q.range))
    else (if bytes_eq name (codes "bundle-version") then not (is_at_least_zero (range_parts q.from_range))
    else (if bytes_eq name (codes "bundle-symbolic-name") then is_some q.from_name else is_listed q.equal name))

abbrev pub all_given : Requirement → List (List ℕ) → Bool
all_given q names = list_all (is_given q) names

abbrev pub is_exporter : Requirement → List ℕ → Version → Bool
is_exporter q name version = option_map_or (λ asked. bytes_eq asked name) q.from_name true && is_within (range_parts q.from_range) (parts version)

abbrev pub fits_import : Requirement → Capability → List ℕ → Version → Bool
fits_import q c name version =
    is_within (range_parts q.range) (version_in c.attributes) && (is_exporter q name version && (all_equal c.attributes q.equal && all_given q c.mandatory))

abbrev pub fits_filter : Option Filter → List Attribute → Bool
fits_filter filter attributes = option_map_or (matches bytes_eq attributes) filter true

abbrev pub meets : Requirement → Capability → List ℕ → Version → Bool
meets q c name version =
    if is_bundle q.namespace then is_within (range_parts q.range) (parts version)
    else (if is_package q.namespace then fits_import q c name version else fits_filter q.filter c.attributes)

abbrev pub is_satisfied : Requirement → Capability → List ℕ → Version → Bool
is_satisfied q c name version = bytes_eq q.namespace c.namespace && (bytes_eq q.name c.name && meets q c name version)
