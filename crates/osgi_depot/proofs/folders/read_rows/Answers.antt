-- One more location has one more row and one more script.
use Rattle.std.proofs.Common.{arith, ◌∙◌}
use Rattle.osgi_ops.specs.declared.limits.TheConstants.{MAX_LOCATIONS}
use Rattle.osgi_depot.proofs.Pushed.{kept_more, rows_more}
use Rattle.osgi_depot.proofs.folders.read_rows.Goals as goal

pub loop-number-preserved : goal.loop-number-preserved
loop-number-preserved g c = record {
  rows = rows_more MAX_LOCATIONS c.args.locations.now c.loop-number.number c.index-locations-number.result c.in_ok-location.location (g.F.Shelf.faults c.args.shelf.now) (g.F.Shelf.faults c.loop-number.shelf) (g.F.Shelf.faults c.store.new.shelf) c.loop-number.rows c.push.new.self c.in_ok-stored.field-0.stored
      c.loop-number-test.true c.index-locations-number.is c.in_ok-location.ensures.same c.loop-number.invariant.rows c.in_ok-stored.ensures.stored c.in_ok-push.ensures.added;
  kept = kept_more (g.F.Shelf.told c.args.shelf.now) (g.F.Shelf.told c.loop-number.shelf) c.loop-number.rows c.push.new.self c.loop-number.scripts c.push-in-loop-number.new.self c.index-locations-number.result c.in_ok-location.location c.in_ok-stored.field-0.stored c.in_ok-stored.field-0.script
      c.loop-number.invariant.told c.in_ok-location.ensures.same c.loop-number.invariant.kept c.in_ok-stored.ensures.kept c.in_ok-push.ensures.added c.in_ok-push-2.ensures.added;
  told = c.store.ensures.told ∙ c.loop-number.invariant.told;
  later = omega (arith, c.store.ensures.later, c.loop-number.invariant.later);
}
