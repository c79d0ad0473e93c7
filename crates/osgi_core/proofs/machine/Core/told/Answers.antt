-- A recorded entry is the one that was replied to, so the fields stay kept; where memory ran out nothing has changed.
use Rattle.std.proofs.Common.{ap, arith}
use Rattle.osgi_core.specs.Machine.{Machine}
use Rattle.osgi_listeners.specs.Sights.{sights_of}
use Rattle.osgi_core.proofs.Keeping.{recorded_allowed, recorded_kept, recorded_setting, room_seen, stays_kept, stays_same, told_next, next}
use Rattle.osgi_core.proofs.Room.{all_earlier, has_room}
use Rattle.osgi_tables.proofs.Replying.{on_err}
use Rattle.osgi_core.proofs.machine.Core.told.Goals as goal

-- ---- the call

pub answer-requires : goal.answer-requires
answer-requires c = record {
  room =
      has_room (next c.self.invariant.0 c.args.tag) c.self.inside.tables (told_next c.self.invariant.0 c.args.tag) (c.self.invariant.0.stands c.args.tag)
      (let most = c.self.inside.limits.entries_fit in omega (arith, most, room_seen c.self.inside.limits c.self.inside.entries.items c.self.inside.tables c.args.self.now c.self.view_is c.requires.room)) c.self.inside.limits.budget_fits;
  countable = let most = c.self.inside.limits.entries_fit in omega (arith, most, room_seen c.self.inside.limits c.self.inside.entries.items c.self.inside.tables c.args.self.now c.self.view_is c.requires.room);
  earlier = all_earlier (next c.self.invariant.0 c.args.tag) c.self.inside.tables (told_next c.self.invariant.0 c.args.tag) (c.self.invariant.0.stands c.args.tag);
  brackets = (c.self.invariant.0.stands c.args.tag).brackets;
  ends = c.self.invariant.1;
}

-- ---- memory ran out

pub invariant_of-self : goal.invariant_of-self
invariant_of-self c =
    (stays_kept c.self.inside.limits c.self.inside.entries.items c.answer.new.entries.items c.self.inside.tables c.answer.new.tables c.self.invariant.0 c.in_err-reply.ensures.unchanged c.in_err-reply.ensures.not_recorded, c.answer.ensures.ends)

pub returns-in_err-reply-clause-setting : goal.returns-in_err-reply-clause-setting
returns-in_err-reply-clause-setting c =
    rw (← c.self.view_is)
    (ap (λ (m : Machine). m.setting) (stays_same c.self.inside.limits c.self.inside.entries.items c.answer.new.entries.items c.self.inside.tables c.answer.new.tables c.self.invariant.0 c.in_err-reply.ensures.unchanged c.in_err-reply.ensures.not_recorded))

pub returns-in_err-reply-clause-unchanged : goal.returns-in_err-reply-clause-unchanged
returns-in_err-reply-clause-unchanged c =
    rw (← c.self.view_is)
    (on_err c.from_residual.result
    (stays_same c.self.inside.limits c.self.inside.entries.items c.answer.new.entries.items c.self.inside.tables c.answer.new.tables c.self.invariant.0 c.in_err-reply.ensures.unchanged c.in_err-reply.ensures.not_recorded))

pub returns-in_err-reply-clause-legal : goal.returns-in_err-reply-clause-legal
returns-in_err-reply-clause-legal c = (c.answer.new.tables.wirings.world, (invariant_of-self c).0.told.replayed)

pub returns-in_err-reply-clause-sound : goal.returns-in_err-reply-clause-sound
returns-in_err-reply-clause-sound c = (invariant_of-self c).0.told

-- ---- an entry was recorded

pub invariant_of-self-2 : goal.invariant_of-self-2
invariant_of-self-2 c =
    (recorded_kept c.self.inside.limits c.self.inside.entries.items c.answer.new.entries.items c.self.inside.tables c.answer.new.tables c.args.tag c.args.op c.in_ok-reply.reply (sights_of c.in_ok-reply.told.items) c.self.invariant.0 (room_seen c.self.inside.limits c.self.inside.entries.items c.self.inside.tables c.args.self.now c.self.view_is c.requires.room) c.in_ok-reply.ensures.replied c.in_ok-reply.ensures.recorded, c.answer.ensures.ends)

pub returns-clause-setting : goal.returns-clause-setting
returns-clause-setting c =
    rw (← c.self.view_is) (recorded_setting c.self.inside.limits c.self.inside.entries.items c.self.inside.tables c.answer.new.tables c.args.tag c.args.op c.in_ok-reply.reply (sights_of c.in_ok-reply.told.items) c.self.invariant.0 c.in_ok-reply.ensures.replied)

pub returns-clause-recorded : goal.returns-clause-recorded
returns-clause-recorded c = rw (← c.self.view_is) c.in_ok-reply.ensures.recorded

pub returns-clause-allowed : goal.returns-clause-allowed
returns-clause-allowed c =
    rw (← c.self.view_is) (recorded_allowed c.self.inside.limits c.self.inside.entries.items c.self.inside.tables c.answer.new.tables c.args.tag c.args.op c.in_ok-reply.reply (sights_of c.in_ok-reply.told.items) c.self.invariant.0 (room_seen c.self.inside.limits c.self.inside.entries.items c.self.inside.tables c.args.self.now c.self.view_is c.requires.room) c.in_ok-reply.ensures.replied)

pub returns-clause-legal : goal.returns-clause-legal
returns-clause-legal c = (c.answer.new.tables.wirings.world, (invariant_of-self-2 c).0.told.replayed)

pub returns-clause-sound : goal.returns-clause-sound
returns-clause-sound c = (invariant_of-self-2 c).0.told
