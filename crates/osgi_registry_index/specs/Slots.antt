-- The services that stand in slots by their ids.
use Rattle.std.specs.Prelude.{ℕ, ◌≡◌, ◌==◌, ◌%◌, ◌⊎◌, cond, List, Option, None, Some, slice_index_or}
use Rattle.osgi_ops.specs.declared.service.Service.{Service}
use Rattle.osgi_registry_index.specs.declared.id_slots.IdSlots.{IdSlots}
use Rattle.osgi_registry_index.specs.declared.id_slots.TheConstants.{SLOTS}

-- what stands in each slot
abbrev pub slots_in : IdSlots → List (Option Service)
slots_in kept = kept.slots.items

-- what stands in a slot, where it has this id
abbrev pub of_id : ℕ → Option Service → Option Service
of_id id None = None
of_id id (Some service) = cond (service.service.0 == id) (Some service) None

-- the service of this id, if it is there
abbrev pub kept_at : List (Option Service) → ℕ → Option Service
kept_at slots id = of_id id (slice_index_or slots (id % SLOTS) None)

abbrev pub KeepsSame : List (Option Service) → List (Option Service) → Type 0
KeepsSame old new = (id : ℕ) → kept_at new id ≡ kept_at old id

-- each that is there is this service, or was there
abbrev pub PutsAtMost : List (Option Service) → List (Option Service) → Service → Type 0
PutsAtMost old new service = (id : ℕ) (s : Service) → kept_at new id ≡ Some s → (s ≡ service) ⊎ (kept_at old id ≡ Some s)

-- each that is there was there, and that of this id is not
abbrev pub Forgets : List (Option Service) → List (Option Service) → ℕ → Type 0
Forgets old new gone = (id : ℕ) (s : Service) → kept_at new id ≡ Some s → (kept_at old id ≡ Some s) × ¬ (id ≡ gone)
