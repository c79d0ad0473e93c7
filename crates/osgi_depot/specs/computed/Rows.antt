-- The rows of a depot, so far as they were read.
use Rattle.std.specs.Prelude.{ℕ, ◌≡◌, ◌≢◌, ◌≤◌, ◌<◌, List, All, drop, map, take}
use Rattle.std.specs.Option.{option_to_list}
use Rattle.osgi_depot.specs.Depots.{AreWithin, failure_of, failures, IsSkipped}
use Rattle.osgi_ops.specs.declared.depot.DepotRow.{DepotRow}
use Rattle.osgi_ops.specs.declared.depot.Stored.{Stored}
use Rattle.osgi_ops.specs.declared.depot.Stored.TheVariants as stored

-- what is stored of the location with this number, of which so many are read
pub record IsStoredAt (limit : ℕ) (number from to : ℕ) (kept : Stored) : Type 0 where
  pub read : number < limit → kept ≢ stored.Skipped
  pub skipped : limit ≤ number → kept ≡ stored.Skipped
  pub failed : AreWithin from to (option_to_list (failure_of kept))

-- the rows of these locations, of which so many are read, while the shelf's count of faults went from one number to the other
pub record AreRowsOf (limit : ℕ) (locations : List (List ℕ)) (from to : ℕ) (rows : List DepotRow) : Type 0 where
  pub locations_are : map (λ (row : DepotRow). row.location) rows ≡ locations
  pub read : All (λ row. ¬ IsSkipped row) (take limit rows)
  pub skipped : All IsSkipped (drop limit rows)
  pub failed : AreWithin from to (failures rows)
