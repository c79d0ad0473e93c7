-- What was told so far goes on with what is told of the happenings that are left. That the listeners stand in order is known once a happening was told.
use Rattle.std.proofs.Common.{◌<◌, map}
use Rattle.osgi_sights.specs.Shown.{shown}
use Rattle.osgi_listeners.specs.Rows.{AreInOrder}
use Rattle.osgi_listeners.specs.Sights.{sights_of}
use Rattle.osgi_sights.proofs.Onward.{GoesOn}
use Rattle.osgi_sights.proofs.telling.sights.Given as goal

abbrev pub invariant-loop-place : goal.invariant-loop-place
invariant-loop-place l = record {
  told : GoesOn l.fn.listeners l.fn.removed l.fn.wirings.world (map shown l.items) l.place (sights_of l.told.items);
  in_order : 0 < l.place → AreInOrder l.fn.listeners;
}
