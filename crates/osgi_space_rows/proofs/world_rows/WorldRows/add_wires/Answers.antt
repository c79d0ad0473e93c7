-- One wire more.
use Rattle.std.proofs.lemmas.List.{get_or_default}
use Rattle.osgi_space_rows.proofs.Growth.{adds-nothing, wires-more}
use Rattle.osgi_space_rows.proofs.world_rows.WorldRows.add_wires.Goals as goal

pub loop-wire-init : goal.loop-wire-init
loop-wire-init c = adds-nothing c.args.self.now c.args.revision

pub loop-wire-preserved : goal.loop-wire-preserved
loop-wire-preserved c =
    let all = c.args.wires.now in
    let i = c.loop-wire.wire-index in
    wires-more c.args.self.now c.loop-wire.self c.add_wire.new.self c.args.revision _ all i c.in_ok-add_wire.field-0 c.loop-wire-test.true
    (get_or_default all i _ _ c.loop-wire-test.true) c.loop-wire.invariant c.in_ok-add_wire.ensures.added
