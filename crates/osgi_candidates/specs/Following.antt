-- What an index of offers covers, and the worlds that it can follow.
use Rattle.std.specs.Prelude.{◌≡◌, List, ◌++◌, length}
use Rattle.osgi_candidates.specs.computed.Holding.{AreHeld}
use Rattle.osgi_candidates.specs.computed.InUses.{AreInUse}
use Rattle.osgi_candidates.specs.computed.Names.{AreNames}
use Rattle.osgi_candidates.specs.declared.offer_index.OfferIndex.{OfferIndex}
use Rattle.osgi_world.specs.Lists.{In}
use Rattle.osgi_world.specs.Lookups.{IsKnown}
use Rattle.osgi_world.specs.declared.wiring.Wire.{Wire}
use Rattle.osgi_world.specs.declared.wiring.Wiring.{Wiring}
use Rattle.osgi_world.specs.declared.world.Known.{Known}

-- each wire goes to a capability of a known revision
abbrev pub AreOwnersKnown : List Known → List Wiring → Type 0
AreOwnersKnown K W = (g : Wiring) → In g W → (w : Wire) → In w g.wires → IsKnown K w.capability.owner

-- the index has the names of the known revisions, what is asked of the wirings, and the revisions in use
pub record Covers (index : OfferIndex) (K : List Known) (W : List Wiring) : Type 0 where
  pub known : index.known ≡ length K
  pub wirings : index.wirings ≡ length W
  pub names : AreNames K index.names
  pub held : AreHeld K W index.held
  pub in_use : AreInUse W index.in_use

-- the index covers the first of the known revisions and the first of the wirings; the wires of these go to capabilities of such
-- revisions
pub record CoversFirst (index : OfferIndex) (K : List Known) (W : List Wiring) : Type 0 where
  pub known : List Known
  pub later_known : List Known
  pub wirings : List Wiring
  pub later_wirings : List Wiring
  pub known_are : K ≡ known ++ later_known
  pub wirings_are : W ≡ wirings ++ later_wirings
  pub owners : AreOwnersKnown known wirings
  pub covers : Covers index known wirings
