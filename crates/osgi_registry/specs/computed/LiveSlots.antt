-- The services that are live by their ids, and what may stand of them in slots.
use Rattle.std.specs.Prelude.{ℕ, ◌≡◌, List, Option, Some}
use Rattle.std.specs.BTreeMap.{is_at}
use Rattle.std.specs.List.{filter_map}
use Rattle.std.specs.Map.{lookup}
use Rattle.std.specs.Option.{option_map}
use Rattle.std.specs.Ordering.{nat_cmp}
use Rattle.osgi_ops.specs.declared.service.Service.{Service}
use Rattle.osgi_registry.specs.Rows.{LiveService}
use Rattle.osgi_registry_index.specs.Slots.{kept_at}
use Rattle.osgi_registry_index.specs.declared.place.Place.{Place}

-- the service of this id
abbrev pub service_in : List (ℕ × LiveService) → ℕ → Option Service
service_in entries id = option_map (λ row. row.service) (lookup (is_at (nat_cmp id)) entries)

-- those at these places
abbrev pub services_at : List (ℕ × LiveService) → List Place → List Service
services_at entries places = filter_map (λ p. service_in entries p.service) places

-- each service in a slot is as the rows have it
abbrev pub AreCurrent : List (Option Service) → List (ℕ × LiveService) → Type 0
AreCurrent slots entries = (id : ℕ) (service : Service) → kept_at slots id ≡ Some service → service_in entries id ≡ Some service
