-- The fields with the slots that have more room.
use Rattle.std.proofs.Common.{◌≡◌, List, subst, sym, ◌∙◌, refl}
use Rattle.std.specs.Prelude.{OnOk}
use Rattle.std.specs.Vec.{with_items}
use Rattle.std.proofs.lemmas.List.{with_items_is}
use Rattle.std.proofs.lemmas.Result.{on_ok_weaker}
use Rattle.osgi_listeners.specs.Rows.{AreRoomier, AreRoomierRows, Listening, Row}
use Rattle.osgi_listeners.specs.Sights.{HasRoomFor, sights_of}
use Rattle.osgi_listeners.specs.computed.Kept.{IsKept}
use Rattle.osgi_listeners.proofs.Counting.{room_for}
use Rattle.osgi_listeners.proofs.Orders.{kept_bare}
use Rattle.osgi_listeners.specs.laws.Room.{same_but_room}
use Rattle.osgi_listeners.proofs.listeners.Listeners.reserve_for.Goals as goal

roomier : (c : goal.After-drop-counts) → AreRoomierRows c.self.inside.slots.items c.reserve_counts.new.slots
roomier c = subst (λ (rows : List Row). AreRoomierRows rows c.reserve_counts.new.slots) c.deref_mut.ensures.value c.reserve_counts.ensures.roomier

slots_are : (c : goal.After-drop-counts) → (with_items c.self.inside.slots c.reserve_counts.new.slots).items ≡ c.reserve_counts.new.slots
slots_are c = with_items_is c.self.inside.slots c.reserve_counts.new.slots (c.reserve_counts.ensures.roomier.count ∙ c.deref_mut.ensures.len)

pub invariant_of-self : goal.invariant_of-self
invariant_of-self c =
    let old : Listening = record { rows = c.self.inside.slots.items; turns = c.self.inside.turns.entries; issued = c.self.inside.issued } in
    subst (λ (rows : List Row). IsKept (record { rows = rows; turns = old.turns; issued = old.issued }) c.self.inside.firsts c.self.inside.by_kind) (sym (slots_are c))
    (kept_bare old c.reserve_counts.new.slots c.self.inside.firsts (same_but_room old.rows c.reserve_counts.new.slots (roomier c)) c.self.invariant)

pub returns-clause-roomier : goal.returns-clause-roomier
returns-clause-roomier c =
    let old : Listening = record { rows = c.self.inside.slots.items; turns = c.self.inside.turns.entries; issued = c.self.inside.issued } in
    let more : AreRoomier old (record { rows = c.reserve_counts.new.slots; turns = old.turns; issued = old.issued }) =
    record { rows = roomier c; turns = refl; issued = refl } in
    subst (λ (p : Listening × List Row). AreRoomier p.0 (record { rows = p.1; turns = old.turns; issued = old.issued })) (λ i. (c.self.view_is i, sym (slots_are c) i)) more

pub returns-clause-room : goal.returns-clause-room
returns-clause-room c =
    subst (λ (rows : List Row). OnOk c.reserve_counts.result (HasRoomFor (sights_of c.args.sights.now) rows)) (sym (slots_are c))
    (on_ok_weaker c.reserve_counts.result (room_for c.args.sights.now c.in_ok-counts.counts c.reserve_counts.new.slots c.in_ok-counts.ensures.counts) c.reserve_counts.ensures.room)
