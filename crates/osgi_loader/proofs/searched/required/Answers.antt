-- One wire more, and in the end all.
use Rattle.std.proofs.Common.{◌∙◌, sym}
use Rattle.osgi_ops.specs.Loading.{none}
use Rattle.osgi_loader.proofs.Hosts.{wire-added, wire-passed}
use Rattle.osgi_loader.proofs.searched.required.Goals as goal
use Rattle.osgi_loader.proofs.searched.required.Goals.{then-is_required+in_ok-add_given, else-is_required}

pub loop-wire-init : goal.loop-wire-init
loop-wire-init c = rw c.new-hosts.ensures.items none

pub loop-wire-preserved : goal.loop-wire-preserved
loop-wire-preserved c =
    elim c.if-is_required.branch [
      | then-is_required+in_ok-add_given w ↦ rw w.hosts-is
          (wire-added c.args.wirings.now.world c.args.package.now c.args.wires.now c.loop-wire.wire-index _ c.loop-wire-test.true c.loop-wire.hosts.items w.add_given.new.hosts.items
          (sym c.is_required.ensures.required ∙ w.if-is_required.true) w.in_ok-add_given.ensures.added c.loop-wire.invariant)
      | else-is_required w ↦ rw w.hosts-is
          (wire-passed c.args.wirings.now.world c.args.package.now c.args.wires.now c.loop-wire.wire-index _ c.loop-wire-test.true _
          (sym c.is_required.ensures.required ∙ w.if-is_required.false) c.loop-wire.invariant)
    ]
