-- The fields with the slots that have more room.
use Rattle.std.proofs.Common.{◌≡◌, List, ap, subst, sym, ◌∙◌, refl}
use Rattle.std.specs.Prelude.{OnOk}
use Rattle.std.proofs.lemmas.List.{with_items_is}
use Rattle.std.specs.Vec.{with_items}
use Rattle.osgi_listeners.specs.Rows.{AreRoomier, AreRoomierRows, HasRoom, Listening, Row}
use Rattle.osgi_listeners.specs.computed.Kept.{IsKept}
use Rattle.osgi_listeners.proofs.Orders.{kept_bare}
use Rattle.osgi_listeners.specs.laws.Room.{same_but_room}
use Rattle.osgi_listeners.proofs.listeners.Listeners.reserve.Goals as goal

roomier : (c : goal.After-self-1) → AreRoomierRows c.self.inside.slots.items c.reserve_each.new.slots
roomier c = subst (λ (rows : List Row). AreRoomierRows rows c.reserve_each.new.slots) c.deref_mut.ensures.value c.reserve_each.ensures.roomier

slots_are : (c : goal.After-self-1) → (with_items c.self.inside.slots c.reserve_each.new.slots).items ≡ c.reserve_each.new.slots
slots_are c = with_items_is c.self.inside.slots c.reserve_each.new.slots (c.reserve_each.ensures.roomier.count ∙ c.deref_mut.ensures.len)

pub invariant_of-self : goal.invariant_of-self
invariant_of-self c =
    let old : Listening = record { rows = c.self.inside.slots.items; turns = c.self.inside.turns.entries; issued = c.self.inside.issued } in
    subst (λ (rows : List Row). IsKept (record { rows = rows; turns = old.turns; issued = old.issued }) c.self.inside.firsts c.self.inside.by_kind) (sym (slots_are c))
    (kept_bare old c.reserve_each.new.slots c.self.inside.firsts (same_but_room old.rows c.reserve_each.new.slots (roomier c)) c.self.invariant)

pub returns-clause-roomier : goal.returns-clause-roomier
returns-clause-roomier c =
    let old : Listening = record { rows = c.self.inside.slots.items; turns = c.self.inside.turns.entries; issued = c.self.inside.issued } in
    let more : AreRoomier old (record { rows = c.reserve_each.new.slots; turns = old.turns; issued = old.issued }) =
    record { rows = roomier c; turns = refl; issued = refl } in
    subst (λ (p : Listening × List Row). AreRoomier p.0 (record { rows = p.1; turns = old.turns; issued = old.issued })) (λ i. (c.self.view_is i, sym (slots_are c) i)) more

pub returns-clause-room : goal.returns-clause-room
returns-clause-room c = subst (λ (rows : List Row). OnOk c.reserve_each.result (HasRoom c.args.events rows)) (sym (slots_are c)) c.reserve_each.ensures.room

pub returns-clause-enough : goal.returns-clause-enough
returns-clause-enough c = λ has. c.reserve_each.ensures.enough (subst (HasRoom c.args.events) (ap (λ (l : Listening). l.rows) (sym c.self.view_is) ∙ sym c.deref_mut.ensures.value) has)
