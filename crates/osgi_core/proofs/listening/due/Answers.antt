-- Each call is answered as the history's entry says, so the machine comes to the same end, and the events are those of its telling.
use Rattle.std.proofs.Common.{List, subst}
use Rattle.std.proofs.Math.ListN.{drop_of_length-le}
use Rattle.osgi_core.proofs.Replaying.{due-at_first, due-at_last, due-at_next, due-next, due-room, IsDueSoFar}
use Rattle.osgi_listeners.specs.Sights.{sights_of}
use Rattle.osgi_ops.specs.Settings.{setting_of}
use Rattle.osgi_ops.specs.declared.entry.Entry.{Entry}
use Rattle.osgi_core.proofs.listening.due.Goals as goal

pub loop-entry-init : goal.loop-entry-init
loop-entry-init c =
    due-at_first (setting_of c.args.limits c.args.depot) c.args.entries.now c.args.listener c.in_ok-machine.machine c.in_ok-events.events c.requires.legal c.in_ok-machine.ensures.setting c.in_ok-machine.ensures.entries c.in_ok-machine.ensures.world c.in_ok-events.ensures.empty

pub told-requires : goal.told-requires
told-requires c = record { room = due-room c.entry-item.result (due-at_next c.loop-entry.entry-index c.entry-item.result c.loop-entry-test.true c.entry-item.is c.loop-entry.invariant) }

pub loop-entry-preserved : goal.loop-entry-preserved
loop-entry-preserved c =
    due-next c.entry-item.result (due-at_next c.loop-entry.entry-index c.entry-item.result c.loop-entry-test.true c.entry-item.is c.loop-entry.invariant) c.told.new.self c.add_seen.new.events c.in_ok-copy.field-0 c.in_ok-_reply._reply (sights_of c.in_ok-_reply.sights.items) c.in_ok-copy.ensures.same c.in_ok-_reply.ensures.setting c.in_ok-_reply.ensures.recorded c.in_ok-_reply.ensures.allowed
    (rw (← c.deref.ensures.value) c.in_ok-add_seen.ensures.added)

pub returns : goal.returns
returns c = record {
  due = due-at_last (subst (λ (l : List Entry). IsDueSoFar (setting_of c.args.limits c.args.depot) c.args.entries.now l c.args.listener c.loop-entry.machine c.loop-entry.events)
      (drop_of_length-le c.args.entries.now c.loop-entry-test.false) c.loop-entry.invariant);
}
