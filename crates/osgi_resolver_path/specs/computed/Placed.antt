-- The places of members, by their numbers.
use Rattle.std.specs.Prelude.{◌≡◌, ◌==◌, ℕ, List, Option, None, Some, false, slice_get}
use Rattle.std.specs.List.{list_any}
use Rattle.osgi_base.specs.declared.ids.RevisionId.{RevisionId}
use Rattle.osgi_base.specs.NumberMaps.{value_at}
use Rattle.osgi_base.specs.declared.number_map.NumberMap.{NumberMap}

-- each member's place stands under its number; under other numbers anything may stand
abbrev pub ArePlaces : NumberMap ℕ → List RevisionId → Type 0
ArePlaces places ids = (r : RevisionId) (n : ℕ) → slice_get ids n ≡ Some r → value_at places r.0 ≡ Some n

-- who joins, if anyone does, is no member
abbrev pub IsNoMember : Option RevisionId → List RevisionId → Type 0
IsNoMember None ids = Unit {0}
IsNoMember (Some r) ids = list_any (λ k. k.0 == r.0) ids ≡ false
