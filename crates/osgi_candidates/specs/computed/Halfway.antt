-- An index of offers to which the known revisions were added, and not yet the new wirings.
use Rattle.std.specs.Prelude.{◌≡◌, List, ◌++◌}
use Rattle.osgi_candidates.specs.Following.{Covers}
use Rattle.osgi_candidates.specs.declared.offer_index.OfferIndex.{OfferIndex}
use Rattle.osgi_world.specs.declared.wiring.Wiring.{Wiring}
use Rattle.osgi_world.specs.declared.world.Known.{Known}

-- the index covers all known revisions, and the first of the wirings
pub record IsHalfway (index : OfferIndex) (K : List Known) (W : List Wiring) : Type 0 where
  pub wirings : List Wiring
  pub later : List Wiring
  pub are : W ≡ wirings ++ later
  pub covers : Covers index K wirings
