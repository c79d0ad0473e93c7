-- Wirings that are cut down to some of their revisions.
use Rattle.std.specs.Prelude.{List}
use Rattle.osgi_base.specs.declared.ids.RevisionId.{RevisionId}
use Rattle.osgi_world.specs.Wirings.{Attached, HasWire, InForce}
use Rattle.osgi_world.specs.declared.problem.Problem.{Problem}
use Rattle.osgi_world.specs.declared.wiring.Wire.{Wire}
use Rattle.osgi_world.specs.declared.wiring.Wiring.{Wiring}

-- W has the same fragments and wires of r as V
pub record SameOf (W V : List Wiring) (r : RevisionId) : Type 0 where
  pub attached_to : (f : RevisionId) → Attached W r f → Attached V r f
  pub attached_from : (f : RevisionId) → Attached V r f → Attached W r f
  pub wires_to : (w : Wire) → HasWire W r w → HasWire V r w
  pub wires_from : (w : Wire) → HasWire V r w → HasWire W r w

-- no wire leaves R
abbrev pub IsInside : List Wiring → (RevisionId → Type 0) → Type 0
IsInside W R = (r : RevisionId) (w : Wire) → R r → HasWire W r w → R w.capability.provider

-- W is V cut down to some revisions, which wires do not leave, up to the order of its lists
pub record IsCut (W V : List Wiring) : Type 0 where
  pub in_force : (r : RevisionId) → InForce W r → InForce V r
  pub same : (r : RevisionId) → InForce W r → SameOf W V r
  pub inside : IsInside W (InForce W)

-- what V adds and wires reach from the root
pub data Joins (P : Problem) (V : List Wiring) : RevisionId → Type 0 where
  the_root : Joins P V P.root
  onward : {m : RevisionId} (w : Wire) → Joins P V m → HasWire V m w → ¬ InForce P.world.wirings w.capability.provider → Joins P V w.capability.provider
