-- What is true of the index of a depot.
use Rattle.std.specs.Prelude.{ℕ, ◌≡◌, List, Option, find}
use Rattle.std.specs.BTreeMap.{BTreeMap, get}
use Rattle.std.specs.Option.{option_map}
use Rattle.osgi_base.specs.computed.Texts.{text_cmp}
use Rattle.osgi_ops.specs.Depots.{is_at, row_number}
use Rattle.osgi_ops.specs.declared.depot.DepotRow.{DepotRow}

-- the number of the first row for a location, if there is one
abbrev pub depot_place : List ℕ → List DepotRow → Option ℕ
depot_place location rows = option_map (λ (row : DepotRow). row_number rows location) (find (is_at location) rows)

-- each location has the number of its first row, and others have none
abbrev pub AreFirstPlaces : BTreeMap (List ℕ) ℕ → List DepotRow → Type 0
AreFirstPlaces places rows = (location : List ℕ) → get text_cmp places location ≡ depot_place location rows
