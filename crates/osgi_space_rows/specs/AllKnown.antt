-- Wirings whose requirements, capabilities and fragments are of known revisions.
use Rattle.std.specs.Prelude.{List}
use Rattle.osgi_base.specs.declared.ids.RevisionId.{RevisionId}
use Rattle.osgi_world.specs.Lookups.{IsKnown}
use Rattle.osgi_world.specs.Wirings.{Attached, HasWire}
use Rattle.osgi_world.specs.declared.wiring.Wire.{Wire}
use Rattle.osgi_world.specs.declared.wiring.Wiring.{Wiring}
use Rattle.osgi_world.specs.declared.world.Known.{Known}

-- the owners of the requirement and of the capability of each wire are known, and so is each fragment
pub record AreAllKnown (K : List Known) (W : List Wiring) : Type 0 where
  pub requirements : (r : RevisionId) (w : Wire) → HasWire W r w → IsKnown K w.requirement.owner
  pub capabilities : (r : RevisionId) (w : Wire) → HasWire W r w → IsKnown K w.capability.owner
  pub fragments : (h f : RevisionId) → Attached W h f → IsKnown K f
