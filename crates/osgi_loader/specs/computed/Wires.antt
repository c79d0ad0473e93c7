-- What the code finds along the wires of revisions, by their places.
use Rattle.std.specs.Prelude.{◌≡◌, ◌&&◌, ◌||◌, ◌⊎◌, if◌then◌else◌, ℕ, Bool, false, List, [], Option, None, Some, Contains, IsTrue, bytes_eq, filter, find, map, unwrap_or}
use Rattle.std.specs.List.{list_any}
use Rattle.std.specs.Option.{option_map, option_map_or}
use Rattle.osgi_base.specs.declared.ids.RevisionId.{RevisionId}
use Rattle.osgi_wiring.specs.States.{wiring_at}
use Rattle.osgi_world.specs.Lookups.{capability_at, is_reexport, revision_at}
use Rattle.osgi_world.specs.Satisfaction.{is_bundle, is_package}
use Rattle.osgi_world.specs.declared.capability.Capability.{Capability}
use Rattle.osgi_world.specs.declared.revision.Revision.{Revision}
use Rattle.osgi_world.specs.declared.wiring.Wire.{Wire}
use Rattle.osgi_world.specs.declared.wiring.Wiring.{Wiring}
use Rattle.osgi_world.specs.declared.world.Known.{Known}
use Rattle.osgi_world.specs.declared.world.World.{World}

abbrev pub numbered : ℕ → RevisionId
numbered n = record { 0 = n }

abbrev pub wires_of : World → RevisionId → List Wire
wires_of world r = option_map_or (λ (g : Wiring). g.wires) (wiring_at world.wirings r) []

abbrev pub fragments_of : World → RevisionId → List RevisionId
fragments_of world r = option_map_or (λ (g : Wiring). g.fragments) (wiring_at world.wirings r) []

-- ---- wires

abbrev pub is_export_of : List ℕ → Capability → Bool
is_export_of p c = is_package c.namespace && bytes_eq c.name p

-- the wire goes to an export of p
abbrev pub is_import : List Known → List ℕ → Wire → Bool
is_import K p w = option_map_or (is_export_of p) (capability_at K w.capability.owner w.capability.index) false

-- the provider of the first such wire
abbrev pub provider_of : World → List ℕ → RevisionId → Option RevisionId
provider_of world p r = option_map (λ (w : Wire). w.capability.provider) (find (is_import world.known p) (wires_of world r))

-- the wire goes to a bundle
abbrev pub is_required : List Known → Wire → Bool
is_required K w = option_map_or (λ (c : Capability). is_bundle c.namespace) (capability_at K w.capability.owner w.capability.index) false

abbrev pub number_of : Wire → ℕ
number_of w = w.capability.provider.0

abbrev pub required_by : World → RevisionId → List ℕ
required_by world r = map number_of (filter (is_required world.known) (wires_of world r))

abbrev pub is_reexported : List Known → Wire → Bool
is_reexported K w = is_required K w && is_reexport K w.requirement

abbrev pub reexports : World → ℕ → List ℕ
reexports world b = map number_of (filter (is_reexported world.known) (wires_of world (numbered b)))

-- ---- what is given

abbrev pub owns_export : World → List ℕ → RevisionId → Bool
owns_export world p owner = option_map_or (λ (v : Revision). list_any (is_export_of p) v.capabilities) (revision_at world.known owner) false

abbrev pub has_export : World → List ℕ → RevisionId → Bool
has_export world p r = owns_export world p r || list_any (owns_export world p) (fragments_of world r)

-- from where a bundle gives p by its own import and export
abbrev pub given_by : World → List ℕ → RevisionId → Option RevisionId
given_by world p b = if has_export world p b then Some (unwrap_or (provider_of world p b) b) else None

-- one of these bundles, one that such a bundle reexports, and so on
pub data IsReached (world : World) (starts : List ℕ) : ℕ → Type 0 where
  start : {b : ℕ} → Contains starts b → IsReached world starts b
  reexported : {b c : ℕ} → IsReached world starts b → Contains (reexports world b) c → IsReached world starts c

-- such a bundle gives p from this number
abbrev pub IsGiven : World → List ℕ → List ℕ → ℕ → Type 0
IsGiven world p starts n = (b : ℕ) × IsReached world starts b × (given_by world p (numbered b) ≡ Some (numbered n))

-- a required bundle gives p to r from this number, or r exports p and is this number
abbrev pub IsUnwiredSource : World → List ℕ → RevisionId → ℕ → Type 0
IsUnwiredSource world p r n = IsGiven world p (required_by world r) n ⊎ IsTrue (has_export world p r) × (n ≡ r.0)
