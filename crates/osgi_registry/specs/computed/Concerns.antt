-- Whom a service concerns, and which services an index by bundle has to have.
use Rattle.std.specs.Prelude.{◌≡◌, ◌||◌, ◌==◌, Bool, true, false, List, All, map}
use Rattle.std.specs.List.{filter_map, list_any}
use Rattle.std.specs.BTreeMap.{is_at}
use Rattle.std.specs.Option.{option_map, option_map_or}
use Rattle.std.specs.Ordering.{nat_cmp}
use Rattle.osgi_base.specs.declared.ids.BundleId.{BundleId}
use Rattle.osgi_base.specs.declared.ids.ServiceId.{ServiceId}
use Rattle.osgi_ops.specs.declared.service.Service.{Service}
use Rattle.osgi_registry.specs.Rows.{is_owned, LiveService, row_at, service_number}
use Rattle.osgi_registry_index.specs.Belonging.{belongs, Bundles}

-- the bundle owns the service, or is one of its users
abbrev pub concerns : BundleId → LiveService → Bool
concerns bundle row = is_owned bundle row || list_any (λ other. bundle.0 == other.0) row.uses

-- the service belongs to each bundle that it concerns
abbrev pub IsCovered : Bundles → LiveService → Type 0
IsCovered bundles row = (bundle : BundleId) → concerns bundle row ≡ true → belongs bundles bundle.0 (service_number row) ≡ true

abbrev pub AreCovered : Bundles → List LiveService → Type 0
AreCovered bundles rows = All (IsCovered bundles) rows

-- the bundle owns the service, and it is live
abbrev pub owns : BundleId → List LiveService → ServiceId → Bool
owns bundle rows service = option_map_or (is_owned bundle) (row_at service rows) false

-- each service that concerns the bundle is one of these
abbrev pub AreAmong : BundleId → List ServiceId → List LiveService → Type 0
AreAmong bundle services rows = All (λ row. concerns bundle row ≡ true → list_any (is_at (nat_cmp (service_number row))) (map (λ (service : ServiceId). service.0) services) ≡ true) rows

-- the services of these ids that are live
abbrev pub live_among : List LiveService → List ServiceId → List Service
live_among rows ids = filter_map (λ id. option_map (λ row. row.service) (row_at id rows)) ids
