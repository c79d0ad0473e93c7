-- Requirements that have a candidate and may have one wire alone, by the lists of their candidates.
use Rattle.std.specs.Prelude.{◌≡◌, ℕ, IsTrue, List, [], Option, None, Some, slice_get}
use Rattle.std.specs.Global.{Vec}
use Rattle.osgi_world.specs.Lookups.{is_multiple}
use Rattle.osgi_world.specs.declared.wiring.CapRef.{CapRef}
use Rattle.osgi_world.specs.declared.wiring.ReqRef.{ReqRef}
use Rattle.osgi_world.specs.declared.world.Known.{Known}

abbrev pub items_of : Option (Vec CapRef) → List CapRef
items_of None = []
items_of (Some list) = list.items

-- the list at a place; empty where there is none
abbrev pub list_at : List (Vec CapRef) → ℕ → List CapRef
list_at lists index = items_of (slice_get lists index)

-- the requirement may have one wire alone, and has a candidate among these
pub record IsSureBy (K : List Known) (candidates : List CapRef) (q : ReqRef) : Type 0 where
  pub single : ¬ IsTrue (is_multiple K q)
  pub some : ¬ (candidates ≡ [])
