-- Which services belong to which bundle, as an index keeps them.
use Rattle.std.specs.Prelude.{ℕ, ◌≡◌, ◌==◌, ◌&&◌, Bool, false, List, [], if◌then◌else◌}
use Rattle.std.specs.List.{list_any}
use Rattle.std.specs.BTreeMap.{BTreeMap, get, is_at}
use Rattle.std.specs.BTreeSet.{BTreeSet}
use Rattle.std.specs.Option.{option_map_or}
use Rattle.std.specs.Ordering.{nat_cmp}
use Rattle.osgi_base.specs.declared.ids.BundleId.{BundleId}
use Rattle.osgi_base.specs.declared.ids.ServiceId.{ServiceId}
use Rattle.osgi_registry_index.specs.declared.bundle_services.BundleServices.{BundleServices}

-- the services of each bundle, by their numbers
abbrev pub Bundles : Type 0
Bundles = BTreeMap ℕ (BTreeSet ℕ)

-- those that the index keeps
abbrev pub bundles_in : BundleServices → Bundles
bundles_in index = index.bundles

-- the services of the bundle
abbrev pub services_of : Bundles → ℕ → List ℕ
services_of bundles bundle = option_map_or (λ services. services.keys) (get nat_cmp bundles bundle) []

-- the service is one of the bundle's
abbrev pub belongs : Bundles → ℕ → ℕ → Bool
belongs bundles bundle service = list_any (is_at (nat_cmp service)) (services_of bundles bundle)

-- the service comes to be the bundle's, or not to be; nothing else changes
abbrev pub Sets : Bundles → Bundles → BundleId → ServiceId → Bool → Type 0
Sets old new bundle service is = (b s : ℕ) → belongs new b s ≡ (if (bundle.0 == b) && (service.0 == s) then is else belongs old b s)

abbrev pub BelongsSame : Bundles → Bundles → Type 0
BelongsSame old new = (b s : ℕ) → belongs new b s ≡ belongs old b s

-- nothing belongs to the bundle, and to each other bundle what belonged to it
abbrev pub Empties : Bundles → Bundles → BundleId → Type 0
Empties old new bundle = (b s : ℕ) → belongs new b s ≡ (if bundle.0 == b then false else belongs old b s)
