-- One wiring more.
use Rattle.osgi_space_rows.proofs.Growth.{adds-no_wirings, wirings-more}
use Rattle.osgi_space_rows.proofs.world_rows.WorldRows.with_wirings.Goals as goal

pub loop-wiring-init : goal.loop-wiring-init
loop-wiring-init c = adds-no_wirings _

pub loop-wiring-preserved : goal.loop-wiring-preserved
loop-wiring-preserved c =
    wirings-more _ c.loop-wiring.made c.add_wiring.new.self c.wiring-item.result c.args.wirings.now c.loop-wiring.wiring-index c.loop-wiring-test.true c.wiring-item.is c.loop-wiring.invariant c.in_ok-add_wiring.ensures.added
