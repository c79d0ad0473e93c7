-- What is left of the rows has the folder that all of them have.
use Rattle.std.proofs.Common.{◌≡◌, drop}
use Rattle.osgi_outside.specs.Shelves.{folder_at}
use Rattle.osgi_outside.proofs.memory_shelf.first_at.Given as goal

abbrev pub invariant-loop-row : goal.invariant-loop-row
invariant-loop-row l = folder_at (drop l.row-index l.rows) l.location ≡ folder_at l.rows l.location
