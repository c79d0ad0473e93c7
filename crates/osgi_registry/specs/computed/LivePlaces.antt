-- The places of the services that are live, which an index by class has.
use Rattle.std.specs.Prelude.{ℕ, ◌≡◌, ◌&&◌, Bool, List}
use Rattle.std.specs.List.{list_any}
use Rattle.osgi_ops.specs.Classes.{has_class}
use Rattle.osgi_registry.specs.Rows.{LiveService}
use Rattle.osgi_registry_index.specs.Places.{Classes, holds, place_of, same_place}
use Rattle.osgi_registry_index.specs.declared.place.Place.{Place}

abbrev pub is_placed : List ℕ → Place → LiveService → Bool
is_placed class place row = has_class class row.service && same_place (place_of row.service) place

-- each class has the places of its services and no others
abbrev pub IsIndexOf : Classes → List LiveService → Type 0
IsIndexOf classes rows = (c : List ℕ) (p : Place) → holds classes c p ≡ list_any (is_placed c p) rows
