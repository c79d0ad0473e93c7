-- One capability more.
use Rattle.std.proofs.Common.{◌+◌, [], take}
use Rattle.osgi_space_rows.specs.computed.Payloads.{OneSays, Says}
use Rattle.osgi_space_rows.proofs.Payload.{adds-none, adds-then, none-says, says-more}
use Rattle.osgi_space_rows.proofs.named.Named.add_capabilities.Goals as goal

pub loop-capability-init : goal.loop-capability-init
loop-capability-init c = adds-none c.args.self.now (OneSays (Says c.args.owner) []) c.requires.named (none-says (Says c.args.owner))

pub loop-capability-preserved : goal.loop-capability-preserved
loop-capability-preserved c =
    let all = c.args.capabilities.now in
    adds-then c.args.self.now c.loop-capability.self c.add_capability.new.self (OneSays (Says c.args.owner) (take c.loop-capability.capability-index all)) (Says c.args.owner c.capability-item.result)
    (OneSays (Says c.args.owner) (take (c.loop-capability.capability-index + 1) all)) c.loop-capability.invariant c.in_ok-add_capability.ensures.adds
    (says-more (Says c.args.owner) c.capability-item.result all c.loop-capability.capability-index c.loop-capability-test.true c.capability-item.is)
