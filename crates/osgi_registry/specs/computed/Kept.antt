-- What is true of the registry's fields between calls.
use Rattle.std.specs.Prelude.{ℕ, ◌≡◌, ◌-◌, ◌^◌, ◌<◌, ◌≤◌, List, Option, All, AllPairs, length}
use Rattle.std.specs.Map.{values_of}
use Rattle.osgi_ops.specs.declared.limits.TheConstants.{MAX_SERVICES}
use Rattle.osgi_ops.specs.declared.service.Service.{Service}
use Rattle.osgi_registry.specs.computed.Concerns.{AreCovered}
use Rattle.osgi_registry_index.specs.Belonging.{Bundles}
use Rattle.osgi_registry.specs.computed.LivePlaces.{IsIndexOf}
use Rattle.osgi_registry_index.specs.Places.{Classes}
use Rattle.osgi_registry.specs.computed.LiveSlots.{AreCurrent}
use Rattle.osgi_registry.specs.Rows.{LiveService, service_number}

-- a row under its id, which was given
pub record IsUnder (issued : ℕ) (e : ℕ × LiveService) : Type 0 where
  pub key : e.0 ≡ service_number e.1
  pub some : 0 < e.0
  pub below : e.0 ≤ issued

abbrev pub IsBefore : ℕ × LiveService → ℕ × LiveService → Type 0
IsBefore d e = d.0 < e.0

-- each row stands under its id, the ids rise, and there are no more rows, and no more ids given, than may be
pub record AreKept (issued : ℕ) (entries : List (ℕ × LiveService)) : Type 0 where
  pub under : All (IsUnder issued) entries
  pub rising : AllPairs IsBefore entries
  pub few : length entries ≤ MAX_SERVICES
  pub fits : issued ≤ 2 ^ 32 - 1

-- and the index by class is theirs, and so is the index by bundle; what stands in slots is as they are now
pub record IsKept (issued : ℕ) (entries : List (ℕ × LiveService)) (slots : List (Option Service)) (classes : Classes) (bundles : Bundles) : Type 0 where
  pub rows : AreKept issued entries
  pub current : AreCurrent slots entries
  pub index : IsIndexOf classes (values_of entries)
  pub covered : AreCovered bundles (values_of entries)
