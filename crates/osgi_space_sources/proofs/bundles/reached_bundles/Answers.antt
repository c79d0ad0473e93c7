-- What is found is reached, and when nothing is left to look at, all that is reached is found.
use Rattle.std.proofs.Common.{◌<◌, length, get_or, arith}
use Rattle.osgi_space_sources.specs.laws.Adding.{adds-from, item-at}
use Rattle.osgi_space_sources.proofs.Worklist.{worklist-init, worklist-step, worklist-done}
use Rattle.osgi_space_rows.specs.Rows.{Reexports, Requires}
use Rattle.osgi_space_sources.proofs.bundles.reached_bundles.Goals as goal

pub loop-next-init : goal.loop-next-init
loop-next-init c = worklist-init (Requires c.args.rows.now c.args.revision) (Reexports c.args.rows.now) c.add_required.new.found (adds-from c.new-found.ensures.empty c.in_ok-add_required.ensures.added)

pub loop-next-preserved : goal.loop-next-preserved
loop-next-preserved c =
    let found = c.loop-next.found in
    let next = c.loop-next.next in
    let slice = c.items.result.now in
    let within : next < length found = omega arith in
    worklist-step (Requires c.args.rows.now c.args.revision) (Reexports c.args.rows.now) found c.add_reexported.new.found next (get_or slice next 0) within (item-at found slice next 0 c.items.ensures.items within)
    c.loop-next.invariant c.in_ok-add_reexported.ensures.added

pub returns : goal.returns
returns c = record { reached = worklist-done (Requires c.args.rows.now c.args.revision) (Reexports c.args.rows.now) c.loop-next.found c.loop-next.next (omega arith) c.loop-next.invariant }
