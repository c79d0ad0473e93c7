-- Worlds, and what the wirings W of the known revisions K hold. A revision without a wiring counts as having one without
-- wires and fragments.
use Rattle.std.specs.Prelude.{◌≡◌, ◌≢◌, ℕ, ◌<◌, ◌⊎◌, IsTrue, List}
use Rattle.osgi_base.specs.declared.ids.RevisionId.{RevisionId}
use Rattle.osgi_world.specs.Lists.{In, Two}
use Rattle.osgi_world.specs.Lookups.{IsKnown, is_current, is_fragment, is_reexport, requirement_count, capability_count, capability_namespace, capability_name, used_packages}
use Rattle.osgi_world.specs.Satisfaction.{is_bundle, is_package}
use Rattle.osgi_world.specs.declared.wiring.CapRef.{CapRef}
use Rattle.osgi_world.specs.declared.wiring.ReqRef.{ReqRef}
use Rattle.osgi_world.specs.declared.wiring.Wire.{Wire}
use Rattle.osgi_world.specs.declared.wiring.Wiring.{Wiring}
use Rattle.osgi_world.specs.declared.world.Known.{Known}

-- each revision is known once; a wiring is of a known revision that is no fragment, and of no other revision that has one
pub record IsWorld (K : List Known) (W : List Wiring) : Type 0 where
  pub known_once : ¬ Two (λ (k l : Known). k.id ≡ l.id) K
  pub known : (g : Wiring) → In g W → IsKnown K g.revision
  pub hosts : (g : Wiring) → In g W → ¬ IsTrue (is_fragment K g.revision)
  pub once : ¬ Two (λ (g h : Wiring). g.revision ≡ h.revision) W

-- ---- wirings

-- r has a wiring
pub record InForce (W : List Wiring) (r : RevisionId) : Type 0 where
  pub wiring : Wiring
  pub stands : In wiring W
  pub revision : wiring.revision ≡ r

-- the wiring of r lists f as a fragment
pub record Attached (W : List Wiring) (r f : RevisionId) : Type 0 where
  pub wiring : Wiring
  pub stands : In wiring W
  pub revision : wiring.revision ≡ r
  pub has : In f wiring.fragments

-- w is a wire of r
pub record HasWire (W : List Wiring) (r : RevisionId) (w : Wire) : Type 0 where
  pub wiring : Wiring
  pub stands : In wiring W
  pub revision : wiring.revision ≡ r
  pub has : In w wiring.wires

-- r is in force, or attached to a revision that is
abbrev pub InUse : List Wiring → RevisionId → Type 0
InUse W r = InForce W r ⊎ ((h : RevisionId) × Attached W h r)

-- r waits for removal: it is in force or attached, and not current
abbrev pub WaitsForRemoval : List Known → List Wiring → RevisionId → Type 0
WaitsForRemoval K W r = InUse W r × ¬ IsTrue (is_current K r)

-- ---- payloads

-- what this owner has is in the payload of r: the owner is r itself, or a fragment attached to it
abbrev pub Owns : List Wiring → RevisionId → RevisionId → Type 0
Owns W r owner = (owner ≡ r) ⊎ Attached W r owner

abbrev pub HasRequirement : List Known → List Wiring → RevisionId → ReqRef → Type 0
HasRequirement K W r q = Owns W r q.owner × (q.index < requirement_count K q.owner)

abbrev pub HasCapability : List Known → List Wiring → RevisionId → RevisionId → ℕ → Type 0
HasCapability K W r owner index = Owns W r owner × (index < capability_count K owner)

-- the capability at this place is an export of the package p
abbrev pub IsExport : List Known → RevisionId → ℕ → List ℕ → Type 0
IsExport K owner index p = IsTrue (is_package (capability_namespace K owner index)) × (capability_name K owner index ≡ p)

-- the payload of r exports p
pub record HasExport (K : List Known) (W : List Wiring) (r : RevisionId) (p : List ℕ) : Type 0 where
  pub owner : RevisionId
  pub index : ℕ
  pub has : HasCapability K W r owner index
  pub export : IsExport K owner index p

-- an export of p in the payload of e lists u in its `uses`
pub record ExportUses (K : List Known) (W : List Wiring) (e : RevisionId) (p u : List ℕ) : Type 0 where
  pub owner : RevisionId
  pub index : ℕ
  pub has : HasCapability K W e owner index
  pub export : IsExport K owner index p
  pub uses : In u (used_packages K owner index)

-- ---- wires

-- the wire goes to a bundle
abbrev pub IsBundleWire : List Known → Wire → Type 0
IsBundleWire K w = IsTrue (is_bundle (capability_namespace K w.capability.owner w.capability.index))

-- r has a wire for the package p to x
pub record PackageWire (K : List Known) (W : List Wiring) (r : RevisionId) (p : List ℕ) (x : RevisionId) : Type 0 where
  pub wire : Wire
  pub has : HasWire W r wire
  pub export : IsExport K wire.capability.owner wire.capability.index p
  pub provider : wire.capability.provider ≡ x

-- r has a bundle wire to x
pub record BundleWire (K : List Known) (W : List Wiring) (r x : RevisionId) : Type 0 where
  pub wire : Wire
  pub has : HasWire W r wire
  pub bundle : IsBundleWire K wire
  pub provider : wire.capability.provider ≡ x

-- r has a bundle wire to x for a requirement with `visibility:=reexport`
pub record Reexports (K : List Known) (W : List Wiring) (r x : RevisionId) : Type 0 where
  pub wire : Wire
  pub has : HasWire W r wire
  pub bundle : IsBundleWire K wire
  pub provider : wire.capability.provider ≡ x
  pub reexport : IsTrue (is_reexport K wire.requirement)

-- ---- what is on offer

-- r has a wire for the package p to another revision
pub record ImportsElsewhere (K : List Known) (W : List Wiring) (r : RevisionId) (p : List ℕ) : Type 0 where
  pub from : RevisionId
  pub imports : PackageWire K W r p from
  pub elsewhere : from ≢ r

-- the capability is in its provider's payload, and is no export of a package that the provider imports from elsewhere
pub record OnOffer (K : List Known) (W : List Wiring) (c : CapRef) : Type 0 where
  pub has : HasCapability K W c.provider c.owner c.index
  pub stays : (p : List ℕ) → IsExport K c.owner c.index p → ¬ ImportsElsewhere K W c.provider p

-- r exports the package p, and the export is on offer
pub record Exports (K : List Known) (W : List Wiring) (r : RevisionId) (p : List ℕ) : Type 0 where
  pub exported : HasExport K W r p
  pub stays : ¬ ImportsElsewhere K W r p
