-- The rows so far are those of the locations so far, and so are their scripts.
use Rattle.std.proofs.Common.{◌≡◌, ◌≤◌, take}
use Rattle.osgi_depot.specs.Depots.{AreKeptAt}
use Rattle.osgi_depot.specs.computed.Rows.{AreRowsOf}
use Rattle.osgi_ops.specs.declared.limits.TheConstants.{MAX_LOCATIONS}
use Rattle.osgi_depot.proofs.folders.read_rows.Given as goal

abbrev pub invariant-loop-number : goal.invariant-loop-number
invariant-loop-number g l = record {
  rows : AreRowsOf MAX_LOCATIONS (take l.number l.locations) (g.F.Shelf.faults l.initial.shelf) (g.F.Shelf.faults l.shelf) l.rows;
  kept : AreKeptAt (g.F.Shelf.told l.initial.shelf) l.rows l.scripts;
  told : g.F.Shelf.told l.shelf ≡ g.F.Shelf.told l.initial.shelf;
  later : g.F.Shelf.faults l.initial.shelf ≤ g.F.Shelf.faults l.shelf;
}
