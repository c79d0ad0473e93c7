-- Items of lists of wires and of revisions.
use Rattle.std.proofs.Common.{◌≡◌, ℕ, ◌<◌, List, length, get_or}
use Rattle.std.proofs.lemmas.List.{get_or_default}
use Rattle.osgi_base.specs.declared.ids.RevisionId.{RevisionId}
use Rattle.osgi_world.specs.declared.wiring.Wire.{Wire}

abbrev pub no_revision : RevisionId
no_revision = record { 0 = 0 }

abbrev pub no_wire : Wire
no_wire = record { requirement = record { owner = no_revision; index = 0 }; capability = record { provider = no_revision; owner = no_revision; index = 0 } }

-- an item that is there whatever stands for those that are not
pub there : {X : Type 0} (xs : List X) (i : ℕ) (none : X) → i < length xs → get_or xs i none ≡ get_or xs i (get_or xs i none)
there xs i none within = get_or_default xs i none (get_or xs i none) within
