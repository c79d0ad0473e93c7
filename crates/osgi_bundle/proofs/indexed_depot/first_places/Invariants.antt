-- The places are those of the rows so far, and the number is how many these are.
use Rattle.std.proofs.Common.{◌≡◌, take}
use Rattle.osgi_bundle.specs.computed.Places.{AreFirstPlaces}
use Rattle.osgi_bundle.proofs.indexed_depot.first_places.Given as goal

abbrev pub invariant-loop-row : goal.invariant-loop-row
invariant-loop-row l = AreFirstPlaces l.places (take l.row-index l.rows) × (l.number ≡ l.row-index)
