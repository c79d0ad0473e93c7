-- What is asked of the wirings in force.
use Rattle.std.specs.Prelude.{◌≡◌, ◌≢◌, ◌⊎◌, ◌↔◌, ℕ, IsSome, IsTrue, List, Some}
use Rattle.std.specs.BTreeMap.{get}
use Rattle.std.specs.BTreeSet.{BTreeSet, contains}
use Rattle.std.specs.Ordering.{nat_cmp}
use Rattle.osgi_base.specs.computed.Texts.{text_cmp}
use Rattle.osgi_base.specs.declared.ids.RevisionId.{RevisionId}
use Rattle.osgi_candidates.specs.declared.held.Held.{Held}
use Rattle.osgi_candidates.specs.declared.held.HeldWirings.{HeldWirings}
use Rattle.osgi_world.specs.Lists.{In}
use Rattle.osgi_world.specs.Wirings.{IsExport}
use Rattle.osgi_world.specs.declared.wiring.Wire.{Wire}
use Rattle.osgi_world.specs.declared.wiring.Wiring.{Wiring}
use Rattle.osgi_world.specs.declared.world.Known.{Known}

abbrev pub HasFragment : BTreeSet ℕ → RevisionId → Type 0
HasFragment set f = IsTrue (contains nat_cmp set f.0)

abbrev pub HasPackage : BTreeSet (List ℕ) → List ℕ → Type 0
HasPackage set p = IsTrue (contains text_cmp set p)

abbrev pub AreFragments : List RevisionId → BTreeSet ℕ → Type 0
AreFragments fragments set = (f : RevisionId) → HasFragment set f ↔ In f fragments

-- the wire of r is for the package p, to another revision
abbrev pub IsElsewhere : List Known → RevisionId → Wire → List ℕ → Type 0
IsElsewhere K r w p = (w.capability.provider ≢ r) × IsExport K w.capability.owner w.capability.index p

abbrev pub PutsElsewhere : BTreeSet (List ℕ) → BTreeSet (List ℕ) → (List ℕ → Type 0) → Type 0
PutsElsewhere old new Put = (p : List ℕ) → HasPackage new p ↔ (HasPackage old p ⊎ Put p)

abbrev pub AreElsewhere : List Known → RevisionId → List Wire → BTreeSet (List ℕ) → Type 0
AreElsewhere K r wires set = (p : List ℕ) → HasPackage set p ↔ ((w : Wire) × In w wires × IsElsewhere K r w p)

-- what is asked of the wiring
pub record Holds (K : List Known) (g : Wiring) (h : Held) : Type 0 where
  pub fragments : AreFragments g.fragments h.fragments
  pub elsewhere : AreElsewhere K g.revision g.wires h.elsewhere

-- the wirings are held by their revisions; of several with one revision it is one of them
pub record AreHeld (K : List Known) (W : List Wiring) (held : HeldWirings) : Type 0 where
  pub each : (g : Wiring) → In g W → IsSome (get nat_cmp held.wirings g.revision.0)
  pub only : (r : RevisionId) (h : Held) → get nat_cmp held.wirings r.0 ≡ Some h → (g : Wiring) × In g W × (g.revision ≡ r) × Holds K g h
