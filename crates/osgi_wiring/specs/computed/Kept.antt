-- What is true of the fields between calls.
use Rattle.std.specs.Prelude.{ℕ, ◌≡◌, ◌<◌, ◌==◌, if◌then◌else◌, Bool, true, List, [], Option, Some, length, map}
use Rattle.std.specs.Option.{option_map}
use Rattle.osgi_world.specs.declared.wiring.Wiring.{Wiring}
use Rattle.osgi_world.specs.declared.world.Known.{Known}
use Rattle.osgi_world.specs.declared.world.World.{World}
use Rattle.osgi_wiring.specs.States.{current_in, revision_number, IsKeptWorld}

abbrev pub revision_of : Wiring → ℕ
revision_of wiring = wiring.revision.0

-- what stands under a key once a value is put under another
abbrev pub puts : ℕ → ℕ → ℕ → Option ℕ → Option ℕ
puts key at value before = if at == key then Some value else before

-- the ids of the known revisions and of those in force, in order, and of each bundle that of its current revision
pub record IsIndexed (world : World) (ids : List ℕ) (current : ℕ → Option ℕ) (in_force : List ℕ) : Type 0 where
  pub known : ids ≡ map revision_number world.known
  pub current_ones : (b : ℕ) → current b ≡ option_map revision_number (current_in world.known (record { 0 = b }))
  pub wired : in_force ≡ map revision_of world.wirings

-- where room was reserved there is room for one more known revision
pub record HasRoom (reserved : Bool) (count capacity ids current : ℕ) : Type 0 where
  pub in_room : reserved ≡ true → count < capacity
  pub in_ids : reserved ≡ true → 0 < ids
  pub in_current : reserved ≡ true → 0 < current

-- the world is kept, its indices are its own, and the room is empty
pub record IsKept (world : World) (issued : ℕ) (ids : List ℕ) (current : ℕ → Option ℕ) (in_force : List ℕ) (room : List Known) (reserved : Bool) (capacity ids_spare current_spare : ℕ) : Type 0 where
  pub keeps : IsKeptWorld world issued
  pub indexed : IsIndexed world ids current in_force
  pub empty : room ≡ []
  pub has_room : HasRoom reserved (length world.known) capacity ids_spare current_spare
