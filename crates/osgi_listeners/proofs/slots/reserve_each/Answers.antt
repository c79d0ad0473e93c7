-- One slot more has room.
use Rattle.std.proofs.Common.{◌<◌, length, subst, sym}
use Rattle.osgi_listeners.proofs.Loops.{reserved_more, roomier_then, roomier_there}
use Rattle.osgi_listeners.proofs.slots.reserve_each.Goals as goal

pub loop-slot-preserved : goal.loop-slot-preserved
loop-slot-preserved c =
    let within : c.loop-slot.slot-index < length c.loop-slot.slots = subst (λ n. c.loop-slot.slot-index < n) (sym c.loop-slot.auto.slots) c.loop-slot-test.true in
    reserved_more c.args.events c.args.slots.now c.loop-slot.slots c.loop-slot.slot-index c.reserve.new.self within
    (roomier_there c.loop-slot.slots c.loop-slot.slot-index c.slot-item.result c.reserve.new.self within c.reserve.ensures.roomier) c.in_ok-reserve.ensures.room c.loop-slot.invariant

pub returns-in_err-reserve-clause-roomier : goal.returns-in_err-reserve-clause-roomier
returns-in_err-reserve-clause-roomier c =
    let within : c.loop-slot.slot-index < length c.loop-slot.slots = subst (λ n. c.loop-slot.slot-index < n) (sym c.loop-slot.auto.slots) c.loop-slot-test.true in
    roomier_then _ _ _ c.loop-slot.invariant.roomier (roomier_there c.loop-slot.slots c.loop-slot.slot-index c.slot-item.result c.reserve.new.self within c.reserve.ensures.roomier)
