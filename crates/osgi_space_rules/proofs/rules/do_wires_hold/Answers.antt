-- The next wire, the last one and the first that does not keep the rules.
use Rattle.std.proofs.Common.{get_or}
use Rattle.osgi_space_rules.specs.computed.Holding.{WireHolds}
use Rattle.osgi_space_rules.proofs.Grow.{each_all, each_done, each_fails, each_step}
use Rattle.osgi_space_rules.proofs.Items.{no_wire, there}
use Rattle.osgi_space_rules.proofs.OneValue.{not_true}
use Rattle.osgi_space_rules.proofs.rules.do_wires_hold.Goals as goal

pub loop-wire-preserved : goal.loop-wire-preserved
loop-wire-preserved c =
    let wires = c.items-wire-items.result.now in
    let i = c.loop-wire.wire-index in
    let within = c.loop-wire-test.true in
    each_step (WireHolds c.args.known.now c.args.index.now c.args.wiring.now.revision) wires i (get_or wires i no_wire) within (there wires i no_wire within) c.loop-wire.invariant (c.in_ok-wire_holds.ensures.holds.0 c.if-not-branch.false)

pub returns-then-not-branch : goal.returns-then-not-branch
returns-then-not-branch c =
    let wires = c.items-wire-items.result.now in
    let i = c.loop-wire.wire-index in
    let within = c.loop-wire-test.true in
    rw (← c.items-wire-items.ensures.items) (record {
      each = each_fails (WireHolds c.args.known.now c.args.index.now c.args.wiring.now.revision) wires i (get_or wires i no_wire) within (there wires i no_wire within) (λ holds. not_true c.in_ok-wire_holds.field-0 c.if-not-branch.true (c.in_ok-wire_holds.ensures.holds.1 holds));
    })

pub returns : goal.returns
returns c =
    let P = WireHolds c.args.known.now c.args.index.now c.args.wiring.now.revision in
    let wires = c.items-wire-items.result.now in
    rw (← c.items-wire-items.ensures.items) (record { each = each_all P wires (each_done P wires c.loop-wire.wire-index c.loop-wire-test.false c.loop-wire.invariant) })
