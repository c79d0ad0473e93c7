-- The registry as contracts see it: the live services in rows, and what calls answer and change by them.
use Rattle.std.specs.Prelude.{ℕ, ◌≡◌, ◌==◌, ◌+◌, ◌-◌, ◌<◌, ◌≤◌, nat_le, Bool, true, not, if◌then◌else◌, List, [], Option, None, Some, Result, Ok, Err, All, Contains, IsSomeAnd, find, filter, map, length}
use Rattle.std.specs.List.Sorted.{IsStrictlyIncreasing}
use Rattle.std.specs.Option.{option_map_or, option_or}
use Rattle.osgi_base.specs.declared.ids.BundleId.{BundleId}
use Rattle.osgi_base.specs.declared.ids.ServiceId.{ServiceId}
use Rattle.osgi_model.specs.declared.filter.Filter.{Filter}
use Rattle.osgi_model.specs.declared.value.Attribute.{Attribute}
use Rattle.osgi_ops.specs.Classes.{IsOf}
use Rattle.osgi_ops.specs.Properties.{has_twins, with_framework}
use Rattle.osgi_ops.specs.declared.limits.TheConstants.{MAX_SERVICES}
use Rattle.osgi_ops.specs.declared.refusal.Many.TheVariants.{Services}
use Rattle.osgi_ops.specs.declared.refusal.Refusal.{Refusal}
use Rattle.osgi_ops.specs.declared.refusal.Refusal.TheVariants.{NoSuchService, BadProperties, NotOwner, TooMany}
use Rattle.osgi_ops.specs.declared.scope.Scope.{Scope}
use Rattle.osgi_ops.specs.declared.service.Service.{Service}
pub use Rattle.osgi_registry_index.specs.Counts.{count_of, with_count}

-- a live service, its scope, and how often each user holds it, by the user's id
pub record LiveService : Type 0 where
  pub service : Service
  pub scope : Scope
  pub uses : List (ℕ × ℕ)

-- the live services by rising id, and how many ids were given
pub record RegistryRows : Type 0 where
  pub rows : List LiveService
  pub issued : ℕ

abbrev pub service_number : LiveService → ℕ
service_number row = row.service.service.0

-- the ids are above 0 and rise, and all of them were given
pub record AreInOrder (registry : RegistryRows) : Type 0 where
  pub rising : IsStrictlyIncreasing (map service_number registry.rows)
  pub issued : All (λ row. (0 < service_number row) × (service_number row ≤ registry.issued)) registry.rows

abbrev pub is_service : ServiceId → LiveService → Bool
is_service service row = service.0 == service_number row

-- the row of the service, if it is live
abbrev pub row_at : ServiceId → List LiveService → Option LiveService
row_at service rows = find (is_service service) rows

-- the rows with a change at the service
abbrev pub change : ServiceId → (LiveService → LiveService) → List LiveService → List LiveService
change service f rows = map (λ row. if is_service service row then f row else row) rows

abbrev pub without : ServiceId → List LiveService → List LiveService
without service rows = filter (λ row. not (is_service service row)) rows

-- ---- services and classes

-- the services alone
abbrev pub services_in : List LiveService → List Service
services_in rows = map (λ row. row.service) rows

abbrev pub ids_of : List LiveService → List ServiceId
ids_of rows = map (λ row. row.service.service) rows

-- a service of the class that fits the filter and is assignable for each of its classes, where `is_assignable` says so of
-- its registrant and the class
abbrev pub IsOpenBy : (BundleId → List ℕ → Bool) → List ℕ → Option Filter → Service → Type 0
IsOpenBy is_assignable class filter service = IsOf class filter service × All (λ c. is_assignable service.owner c ≡ true) service.classes

-- the id is that of one of the services that are asked for
pub record IsAskedFor (IsAsked : Service → Type 0) (services : List Service) (id : ServiceId) : Type 0 where
  pub service : Service
  pub there : Contains services service
  pub is : id ≡ service.service
  pub asked : IsAsked service

-- ---- uses

abbrev pub used_more : BundleId → LiveService → LiveService
used_more user row = record row { uses = with_count user (count_of user row.uses + 1) row.uses }

abbrev pub used_less : BundleId → LiveService → LiveService
used_less user row = record row { uses = with_count user (count_of user row.uses - 1) row.uses }

-- how often the user holds the service; 0 where it is not live
abbrev pub use_count : BundleId → ServiceId → List LiveService → ℕ
use_count user service rows = option_map_or (λ row. count_of user row.uses) (row_at service rows) 0

-- ---- changes

-- a service as it is registered
abbrev pub new_row : ServiceId → BundleId → List (List ℕ) → List ℕ → Scope → List Attribute → LiveService
new_row service owner classes object scope properties = record {
  service = record {
    service = service;
    owner = owner;
    classes = classes;
    object = object;
    properties = with_framework properties classes scope service owner;
  };
  scope = scope;
  uses = [];
}

-- a service whose given properties are replaced by these
abbrev pub with_properties : List Attribute → LiveService → LiveService
with_properties properties row = record row {
  service = record row.service { properties = with_framework properties row.service.classes row.scope row.service.service row.service.owner };
}

-- the row with this service in place of its own
abbrev pub with_service : Service → LiveService → LiveService
with_service service row = record row { service = service }

-- the service is that of a live one but for its properties
abbrev pub DiffersAtMostInProperties : Service → List LiveService → Type 0
DiffersAtMostInProperties service rows = IsSomeAnd (row_at service.service rows) (λ row. service ≡ record row.service { properties = service.properties })

-- ---- the release of a bundle

abbrev pub is_owned : BundleId → LiveService → Bool
is_owned bundle row = row.service.owner.0 == bundle.0

-- a service without the uses of the user
abbrev pub without_user : BundleId → LiveService → LiveService
without_user user row = record row { uses = filter (λ other. not (user.0 == other.0)) row.uses }

-- the rows of the other bundles
abbrev pub others : BundleId → List LiveService → List LiveService
others bundle rows = filter (λ row. not (is_owned bundle row)) rows

-- and these without the bundle's uses
abbrev pub released : BundleId → List LiveService → List LiveService
released bundle rows = map (without_user bundle) (others bundle rows)

-- ---- refusals

-- why the owner may not change what is at this row
abbrev pub refusal_at : BundleId → Option LiveService → Option Refusal
refusal_at owner None = Some NoSuchService
refusal_at owner (Some row) = if owner.0 == row.service.owner.0 then None else Some (NotOwner row.service.owner)

-- why the owner may not change the service: it is not live, or another bundle's
abbrev pub change_refusal : BundleId → ServiceId → List LiveService → Option Refusal
change_refusal owner service rows = refusal_at owner (row_at service rows)

abbrev pub twins_refusal : List Attribute → Option Refusal
twins_refusal properties = if has_twins properties then Some BadProperties else None

abbrev pub room_refusal : List LiveService → Option Refusal
room_refusal rows = if nat_le MAX_SERVICES (length rows) then Some (TooMany Services) else None

abbrev pub register_refusal : List Attribute → List LiveService → Option Refusal
register_refusal properties rows = option_or (twins_refusal properties) (room_refusal rows)

abbrev pub modify_refusal : BundleId → ServiceId → List Attribute → List LiveService → Option Refusal
modify_refusal owner service properties rows = option_or (change_refusal owner service rows) (twins_refusal properties)

-- what a get of what is at this row answers
abbrev pub object_at : Option LiveService → Result (List ℕ) Refusal
object_at None = Err NoSuchService
object_at (Some row) = Ok row.service.object
