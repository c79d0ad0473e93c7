-- One more listener sees the happening or does not, until nobody is left.
use Rattle.osgi_sights.specs.Shown.{shown}
use Rattle.osgi_listeners.specs.Sights.{sights_of}
use Rattle.osgi_sights.specs.computed.Asking.{askers}
use Rattle.osgi_sights.proofs.Onward.{all_asked, ended, event_told, given, none_told}
use Rattle.osgi_sights.proofs.telling.tell.Goals as goal

pub loop-listener-preserved : goal.loop-listener-preserved
loop-listener-preserved c =
    let onlookers = c.args.onlookers.now in
    let it = shown c.args.happening.now in
    let left = given c.loop-listener.listener-iterator c.next.new.self c.next.result c.in-Some.listener c.in-Some.is c.next.ensures.steps in record {
      told = event_told onlookers.listeners.now onlookers.removed onlookers.wirings.now.world it c.args.place (askers it onlookers.listeners.now.rows) c.loop-listener.listener-iterator c.next.new.self c.in-Some.listener
          (sights_of c.args.told.now.items) c.loop-listener.told.items c.push.new.self.items c.in_ok-event.field-0 c.in-Some-2.event c.loop-listener.invariant.told left c.in_ok-event.ensures.answer c.in-Some-2.is c.in_ok-push.ensures.items;
      made = c.seen_by.ensures.made;
    }

pub loop-listener-preserved-in_default : goal.loop-listener-preserved-in_default
loop-listener-preserved-in_default c =
    let onlookers = c.args.onlookers.now in
    let it = shown c.args.happening.now in
    let left = given c.loop-listener.listener-iterator c.next.new.self c.next.result c.in-Some.listener c.in-Some.is c.next.ensures.steps in record {
      told = none_told onlookers.listeners.now onlookers.removed onlookers.wirings.now.world it c.args.place (askers it onlookers.listeners.now.rows) c.loop-listener.listener-iterator c.next.new.self c.in-Some.listener
          (sights_of c.args.told.now.items) (sights_of c.loop-listener.told.items) c.in_ok-event.field-0 c.loop-listener.invariant.told left c.in_ok-event.ensures.answer c.in_default.is;
      made = c.seen_by.ensures.made;
    }

pub returns : goal.returns
returns c =
    let onlookers = c.args.onlookers.now in
    let it = shown c.args.happening.now in
    let left = ended c.loop-listener.listener-iterator c.next.new.self c.next.result c.in-None.is c.next.ensures.steps in
    record {
      told = all_asked onlookers.listeners.now onlookers.removed onlookers.wirings.now.world it c.args.place (askers it onlookers.listeners.now.rows) c.loop-listener.listener-iterator
          (sights_of c.args.told.now.items) (sights_of c.loop-listener.told.items) c.loop-listener.invariant.told left;
      in_order = c.askers-listener-items.ensures.in_order;
    }
