-- When wirings are consistent, and when they extend others.
use Rattle.std.specs.Prelude.{◌≡◌, ◌≢◌, ℕ, ◌⊎◌, IsTrue, List}
use Rattle.osgi_base.specs.declared.ids.BundleId.{BundleId}
use Rattle.osgi_base.specs.declared.ids.RevisionId.{RevisionId}
use Rattle.osgi_world.specs.Lists.{In, Two}
use Rattle.osgi_world.specs.Lookups.{symbolic_name, is_current, is_singleton, is_host_of, is_effective, is_multiple, is_dynamic, IsCurrentOf, IsNeeded, SatisfiesAt}
use Rattle.osgi_world.specs.Sources.{Implied, Clash}
use Rattle.osgi_world.specs.Wirings.{IsWorld, InForce, Attached, InUse, HasWire, HasRequirement, IsBundleWire, PackageWire, OnOffer}
use Rattle.osgi_world.specs.declared.wiring.ReqRef.{ReqRef}
use Rattle.osgi_world.specs.declared.wiring.Wire.{Wire}
use Rattle.osgi_world.specs.declared.wiring.Wiring.{Wiring}
use Rattle.osgi_world.specs.declared.world.Known.{Known}
use Rattle.osgi_world.specs.declared.world.World.{World}

-- two different current singletons of one symbolic name
pub record AreRivals (K : List Known) (r s : RevisionId) : Type 0 where
  pub different : r ≢ s
  pub name : symbolic_name K r ≡ symbolic_name K s
  pub current : IsTrue (is_current K r) × IsTrue (is_current K s)
  pub singletons : IsTrue (is_singleton K r) × IsTrue (is_singleton K s)

-- two wires for one requirement that may have at most one, or two for one requirement to one capability
abbrev pub AreDouble : List Known → Wire → Wire → Type 0
AreDouble K v w = (v.requirement ≡ w.requirement) × ((¬ IsTrue (is_multiple K v.requirement)) ⊎ (v.capability ≡ w.capability))

-- the rules of consistency, without the one on `uses` and the one that a wire's capability satisfies its requirement
pub record KeepsRules (K : List Known) (W : List Wiring) : Type 0 where
  -- each wire is for an effective requirement of the payload, or for a dynamic import of the revision itself
  pub asked : (r : RevisionId) (w : Wire) → HasWire W r w →
      (HasRequirement K W r w.requirement × IsTrue (is_effective K w.requirement)) ⊎ (w.requirement.owner ≡ r) × IsTrue (is_dynamic K w.requirement)
  -- a requirement has at most one wire, or, where it may have several, none twice
  pub single : (g : Wiring) → In g W → ¬ Two (AreDouble K) g.wires
  -- a mandatory effective requirement of a payload has a wire
  pub mandatory : (r : RevisionId) (q : ReqRef) → InForce W r → HasRequirement K W r q → IsNeeded K q →
      (w : Wire) × HasWire W r w × (w.requirement ≡ q)
  -- each wire's provider is in force and has the capability on offer; no bundle wire goes to the owner of its requirement
  pub provided : (r : RevisionId) (w : Wire) → HasWire W r w → InForce W w.capability.provider
  pub offered : (r : RevisionId) (w : Wire) → HasWire W r w → OnOffer K W w.capability
  pub not_owner : (r : RevisionId) (w : Wire) → HasWire W r w → IsBundleWire K w → w.capability.provider ≢ w.requirement.owner
  -- the package wires of one revision for one package have one provider
  pub one_provider : (r : RevisionId) (p : List ℕ) (x y : RevisionId) → PackageWire K W r p x → PackageWire K W r p y → x ≡ y
  -- each attached fragment matches its host by name and range, and the host permits fragments
  pub attached : (r f : RevisionId) → Attached W r f → IsTrue (is_host_of K f r)
  -- no two fragments of one symbolic name are attached to one host
  pub one_version : (g : Wiring) → In g W → ¬ Two (λ (e f : RevisionId). symbolic_name K e ≡ symbolic_name K f) g.fragments
  -- of the current singletons that are in force or attached, no two have one symbolic name
  pub singletons : (r s : RevisionId) → InUse W r → InUse W s → ¬ AreRivals K r s

-- consistent, but that a wire's capability need not satisfy its requirement
pub record IsCoherent (K : List Known) (W : List Wiring) : Type 0 where
  pub rules : KeepsRules K W
  -- where r in force has an implied constraint for u as e sees it, the sources of u for one of the two contain those for
  -- the other, or one of the two has none
  pub uses : (r e : RevisionId) (u : List ℕ) → InForce W r → Implied K W (λ x. Unit {0}) r e u → ¬ Clash K W r e u

pub record Consistent (K : List Known) (W : List Wiring) : Type 0 where
  pub coherent : IsCoherent K W
  -- each wire's capability satisfies its requirement
  pub satisfied : (r : RevisionId) (w : Wire) → HasWire W r w → SatisfiesAt K w.requirement w.capability

-- ---- extensions

-- what may be added: the wiring of a current revision, with current fragments, with wires to current providers, and with
-- none for a dynamic import. The fragment whose capability a wire goes to need not be current. That the
-- revision is no fragment is said of all wirings, by `IsWorld`
pub record MayJoin (K : List Known) (g : Wiring) : Type 0 where
  pub current : IsTrue (is_current K g.revision)
  pub fragments_current : (f : RevisionId) → In f g.fragments → IsTrue (is_current K f)
  pub providers_current : (w : Wire) → In w g.wires → IsTrue (is_current K w.capability.provider)
  pub no_dynamics : (w : Wire) → In w g.wires → ¬ IsTrue (is_dynamic K w.requirement)

-- the wirings V have those of W unchanged, and some more, among them one of the root. They are consistent
pub record Extends (K : List Known) (W V : List Wiring) (root : RevisionId) : Type 0 where
  pub world : IsWorld K V
  pub kept : (g : Wiring) → In g W → In g V
  pub joined : (g : Wiring) → In g V → In g W ⊎ MayJoin K g
  pub in_force : InForce V root
  pub consistent : Consistent K V

-- the world knows the same revisions, its wirings extend those of the other, and the current revision of the bundle is in
-- force
pub record ExtendsWorld (old new : World) (b : BundleId) : Type 0 where
  pub known : new.known ≡ old.known
  pub root : RevisionId
  pub current : IsCurrentOf old.known b root
  pub extends : Extends old.known old.wirings new.wirings root
