-- The next wire, and the end.
use Rattle.std.proofs.Common.{get_or}
use Rattle.osgi_candidates.specs.computed.Holding.{IsElsewhere}
use Rattle.osgi_candidates.proofs.Standing.{elsewhere_are}
use Rattle.osgi_space_rules.proofs.Grow.{grow_done, grow_step}
use Rattle.osgi_space_rules.proofs.Items.{no_wire, there}
use Rattle.osgi_candidates.proofs.held.imported_elsewhere.Goals as goal

pub loop-wire-preserved : goal.loop-wire-preserved
loop-wire-preserved c =
    let wires = c.items-wire-items.result.now in
    let i = c.loop-wire.wire-index in
    let within = c.loop-wire-test.true in
    grow_step (λ w p. IsElsewhere c.args.known.now c.args.wiring.now.revision w p) _ _ _ wires i (get_or wires i no_wire) within (there wires i no_wire within) c.loop-wire.invariant c.in_ok-add_elsewhere.ensures.added

pub returns : goal.returns
returns c =
    rw (← c.items-wire-items.ensures.items) (record {
      elsewhere = elsewhere_are c.args.known.now c.args.wiring.now.revision c.items-wire-items.result.now c.loop-wire.packages
          (grow_done (λ w p. IsElsewhere c.args.known.now c.args.wiring.now.revision w p) _ _ c.items-wire-items.result.now c.loop-wire.wire-index c.loop-wire-test.false c.loop-wire.invariant);
    })
