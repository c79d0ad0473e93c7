-- The slot in the place of the listener has the room.
use Rattle.std.proofs.lemmas.Result.{on_ok_weaker}
use Rattle.osgi_listeners.specs.laws.Ids.{ids_rise}
use Rattle.osgi_listeners.proofs.Counting.{room_there}
use Rattle.osgi_listeners.proofs.counts.reserve_at.Goals as goal

pub returns-in-Some-clause-room : goal.returns-in-Some-clause-room
returns-in-Some-clause-room c =
    on_ok_weaker c.reserve.result
    (room_there c.args.slots.now c.in-Some.at c.reserve.new.self c.args.listener c.args.events (ids_rise c.args.slots.now c.requires.rising) c.in-Some.ensures.place)
    c.reserve.ensures.room
