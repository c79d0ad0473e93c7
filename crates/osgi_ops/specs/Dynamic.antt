-- The wire that a load adds for a dynamic import, if it adds one.
use Rattle.std.specs.Prelude.{ℕ, ◌≡◌, ◌+◌, ◌<◌, ◌⊎◌, ◌==◌, Bool, true, false, IsTrue, MatchBool, if◌then◌else◌, List, [], ◌∷◌, ◌++◌, Option, None, Some, map}
use Rattle.std.specs.List.{list_any}
use Rattle.std.specs.Option.{option_map, option_map_or, option_or}
use Rattle.std.specs.Str.{bytes_eq}
use Rattle.osgi_base.specs.declared.ids.BundleId.{BundleId}
use Rattle.osgi_base.specs.declared.ids.RevisionId.{RevisionId}
use Rattle.osgi_ops.specs.Assignable.{package_of}
use Rattle.osgi_ops.specs.Loading.{with_fragments}
use Rattle.osgi_ops.specs.Resolved.{current_revision}
use Rattle.osgi_ops.specs.declared.rows.WireRow.{WireRow}
use Rattle.osgi_world.specs.Candidates.{is_higher}
use Rattle.osgi_world.specs.Consistency.{Consistent}
use Rattle.osgi_world.specs.Lookups.{bundle_of, is_current, is_dynamic, revision_at, SatisfiesAt}
use Rattle.osgi_world.specs.Sources.{Sources}
use Rattle.osgi_world.specs.Wirings.{InForce, IsExport, OnOffer, WaitsForRemoval}
use Rattle.osgi_world.specs.declared.revision.Revision.{Revision}
use Rattle.osgi_world.specs.declared.wiring.CapRef.{CapRef}
use Rattle.osgi_world.specs.declared.wiring.Wire.{Wire}
use Rattle.osgi_world.specs.declared.wiring.Wiring.{Wiring}
use Rattle.osgi_world.specs.declared.world.Known.{Known}
use Rattle.osgi_world.specs.declared.world.World.{World}

-- ---- files of a package

-- the part before the last `/` (47), if there is one
abbrev pub before_last_slash : List ℕ → Option (List ℕ)
before_last_slash [] = None
before_last_slash (b ∷ rest) = option_or (option_map (λ (front : List ℕ). b ∷ front) (before_last_slash rest)) (if b == 47 then Some [] else None)

-- the folder that a package has its files in: its name with `/` for `.` (46)
abbrev pub folder_of : List ℕ → List ℕ
folder_of pack = map (λ b. if b == 46 then 47 else b) pack

-- the file stands in the package: in its folder itself, and not below it
abbrev pub stands_in : List ℕ → List ℕ → Bool
stands_in pack path = bytes_eq (option_map_or (λ (front : List ℕ). front) (before_last_slash path) []) (folder_of pack)

abbrev pub has_package : List Known → List ℕ → RevisionId → Bool
has_package K pack r = option_map_or (λ (v : Revision). list_any (stands_in pack) v.files) (revision_at K r) false

-- a file of the revision or of an attached fragment stands in the package
abbrev pub has_own_files : World → RevisionId → List ℕ → Bool
has_own_files world r pack = list_any (has_package world.known pack) (with_fragments world r)

-- ---- candidates

-- the wirings with one more wire of the revision, after its others
abbrev pub with_wire : RevisionId → Wire → List Wiring → List Wiring
with_wire r w wirings = map (λ (g : Wiring). if g.revision.0 == r.0 then record g { wires = g.wires ++ w ∷ [] } else g) wirings

-- a wire of a dynamic import of r for the package: its capability is an export of the package that meets D4 for the import, by a provider in
-- force, current, and on offer; and with it the wirings are consistent
pub record IsDynamicWire (world : World) (r : RevisionId) (pack : List ℕ) (w : Wire) : Type 0 where
  pub owner : w.requirement.owner ≡ r
  pub dynamic : IsTrue (is_dynamic world.known w.requirement)
  pub export : IsExport world.known w.capability.owner w.capability.index pack
  pub satisfies : SatisfiesAt world.known w.requirement w.capability
  pub in_force : InForce world.wirings w.capability.provider
  pub current : IsTrue (is_current world.known w.capability.provider)
  pub offered : OnOffer world.known world.wirings w.capability
  pub consistent : Consistent world.known (with_wire r w world.wirings)

-- of two capabilities of providers in force the first is preferred: its version is higher; or that of the other is not, and the bundle id of
-- its provider is lower, or both have one provider and its owner's revision id is lower, or both have one owner and it stands before
pub data IsPreferredInForce (K : List Known) (c d : CapRef) : Type 0 where
  higher_version : IsTrue (is_higher K c d) → IsPreferredInForce K c d
  lower_bundle : ¬ IsTrue (is_higher K d c) → bundle_of K c.provider < bundle_of K d.provider → IsPreferredInForce K c d
  lower_owner : ¬ IsTrue (is_higher K d c) → c.provider ≡ d.provider → c.owner.0 < d.owner.0 → IsPreferredInForce K c d
  lower_place : ¬ IsTrue (is_higher K d c) → c.provider ≡ d.provider → c.owner ≡ d.owner → c.index < d.index → IsPreferredInForce K c d

-- of two wires of dynamic imports of one revision the first comes first: by clause, then by preference
abbrev pub IsEarlierWire : List Known → Wire → Wire → Type 0
IsEarlierWire K v w = (v.requirement.index < w.requirement.index) ⊎ ((v.requirement.index ≡ w.requirement.index) × IsPreferredInForce K v.capability w.capability)

-- the first of the wires that may be added
pub record IsFirstWire (world : World) (r : RevisionId) (pack : List ℕ) (w : Wire) : Type 0 where
  pub is : IsDynamicWire world r pack w
  pub first : (other : Wire) → IsDynamicWire world r pack other → (other ≡ w) ⊎ IsEarlierWire world.known w other

-- the package has a source for r, or a file of r's payload stands in it, or r waits for removal: then no wire is added
abbrev pub NeedsNoWire : World → RevisionId → List ℕ → Type 0
NeedsNoWire world r pack =
    ((x : RevisionId) × Sources world.known world.wirings r pack x) ⊎ (has_own_files world r pack ≡ true) ⊎ WaitsForRemoval world.known world.wirings r

-- the wire that a load of the package by r adds, if it adds one
abbrev pub IsWireToAdd : World → RevisionId → List ℕ → Option Wire → Type 0
IsWireToAdd world r pack None = NeedsNoWire world r pack ⊎ ((w : Wire) → ¬ IsDynamicWire world r pack w)
IsWireToAdd world r pack (Some w) = (¬ NeedsNoWire world r pack) × IsFirstWire world r pack w

-- the wire that a load of the class by the bundle adds, if it adds one; none while dynamic imports have not come: the first argument says
-- whether they have
abbrev pub IsAdded : Bool → World → BundleId → List ℕ → Option Wire → Type 0
IsAdded dynamics world bundle class wire =
    MatchBool dynamics ((k : Known) × (current_revision world bundle ≡ Some k) × IsWireToAdd world k.id (package_of class) wire) (wire ≡ None)

-- what wire a load has added: where its reply shows a row of a wire, one that the load adds, and where it shows none, none. That the row is
-- that of the wire, the answer of a Load says
abbrev pub IsAddedWhere : World → BundleId → List ℕ → Option WireRow → Option Wire → Type 0
IsAddedWhere world bundle class None wire = wire ≡ None
IsAddedWhere world bundle class (Some row) wire = IsAdded true world bundle class wire

-- the world with the wire of the bundle's current revision
abbrev pub world_with_wire : World → BundleId → Option Wire → World
world_with_wire world bundle None = world
world_with_wire world bundle (Some w) = record world { wirings = with_wire w.requirement.owner w world.wirings }
