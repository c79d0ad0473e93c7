-- The earliest event is handed, and all that is true of the fields stays so.
use Rattle.std.proofs.Common.{◌≡◌, ◌≢◌, ℕ, List, ap, get_or, set, subst, sym, refl, ◌∙◌, rules}
use Rattle.std.specs.Prelude.{Some, All, false, slice_get}
use Rattle.std.proofs.lemmas.List.{get_or_default}
use Rattle.osgi_listeners.specs.Rows.{AreRising, change, id_of, is_open, number_of, IsEarliest, IsHanded, Listening, Row, tag_of, without_first}
use Rattle.osgi_listeners.specs.computed.Kept.{IsKept, IsPlaceOf}
use Rattle.osgi_listeners.specs.declared.row.ListenerRow.{ListenerRow}
use Rattle.osgi_listeners.proofs.Changes.{change_at}
use Rattle.osgi_listeners.specs.laws.Ids.{ids_rise}
use Rattle.osgi_listeners.specs.laws.Turns.{rising-inserted}
use Rattle.osgi_listeners.proofs.Handing.{earliest, first_within, kept_handed, none_open_by, other_key, waits_there}
use Rattle.osgi_listeners.proofs.Standing.{handed_stands}
use Rattle.osgi_listeners.specs.declared.answer.HandAnswer.TheVariants as answer
use Rattle.osgi_listeners.proofs.listeners.Listeners.hand.Goals as goal

pub returns-in_default-clause-answer : goal.returns-in_default-clause-answer
returns-in_default-clause-answer c =
    let old : Listening = record { rows = c.self.inside.slots.items; turns = c.self.inside.turns.entries; issued = c.self.inside.issued } in
    let closed : All (λ (row : Row). is_open old.turns row ≡ false) old.rows = none_open_by old c.self.inside.firsts c.self.invariant c.in_default.ensures.first in
    (subst (λ (l : Listening). All (λ (row : Row). is_open l.turns row ≡ false) l.rows) c.self.view_is closed, c.in_ok-busy.ensures.busy)

pub unreachable-requires : goal.unreachable-requires
unreachable-requires c =
    let old : Listening = record { rows = c.self.inside.slots.items; turns = c.self.inside.turns.entries; issued = c.self.inside.issued } in
    waits_there old c.self.inside.firsts c.self.invariant c.in-Some.at c.in-Some.ensures.first c.index_mut-slot.result.now c.index_mut-slot.ensures.value (sym c.in_default-take_first.ensures.first)

place_there : (c : goal.In-Some-take_first) → IsPlaceOf c.listener.result.now.listener c.self.inside.slots.items c.in-Some.at
place_there c =
    let old : Listening = record { rows = c.self.inside.slots.items; turns = c.self.inside.turns.entries; issued = c.self.inside.issued } in
    let within = first_within old c.self.inside.firsts c.self.invariant c.in-Some.at c.in-Some.ensures.first in
    let same : id_of (get_or old.rows c.in-Some.at c.index.result.now) ≡ c.listener.result.now.listener.0 = ap id_of (sym c.index.ensures) ∙ ap number_of (sym c.listener.ensures.listener) in
    record { within = within; is = λ d. ap id_of (get_or_default old.rows c.in-Some.at d c.index.result.now within) ∙ same }

slot_after : (c : goal.In-Some-take_first) → c.take_first.new.self ≡ without_first c.index_mut-slot.result.now
slot_after c = c.in-Some-take_first.ensures.rest

written : (c : goal.In-Some-take_first) → set c.self.inside.slots.items c.in-Some.at c.take_first.new.self ≡ change c.listener.result.now.listener without_first c.self.inside.slots.items
written c =
    let rows = c.self.inside.slots.items in
    ap (set rows c.in-Some.at) (slot_after c)
    ∙ change_at c.listener.result.now.listener without_first rows c.in-Some.at c.index_mut-slot.result.now (ids_rise rows c.self.invariant.in_order.listeners.rising) (place_there c) (sym c.index_mut-slot.ensures.value)

pub invariant_of-self-2 : goal.invariant_of-self-2
invariant_of-self-2 c =
    let old : Listening = record { rows = c.self.inside.slots.items; turns = c.self.inside.turns.entries; issued = c.self.inside.issued } in
    let listener = c.listener.result.now.listener in
    let turns = c.insert.new.self.entries in
    let begun : tag_of listener.0 turns ≡ Some c.args.tag = c.in_ok-insert.ensures.updates.1 in
    let rising : AreRising turns = subst AreRising (sym c.in_ok-insert.ensures.entries) (rising-inserted listener.0 c.args.tag old.turns c.self.invariant.in_order.turns) in
    let others : (q : ℕ) → q ≢ listener.0 → tag_of q turns ≡ tag_of q old.turns = λ q differ. c.in_ok-insert.ensures.updates.2 q (other_key listener.0 q differ) in
    subst (λ (p : List Row × List ℕ). IsKept (record { rows = p.0; turns = turns; issued = old.issued }) p.1 c.self.inside.by_kind) (λ i. (sym (written c) i, sym c.set.ensures.set i))
    (kept_handed old c.self.inside.firsts listener c.in-Some.at c.args.tag turns c.self.invariant (place_there c) rising begun others)

pub returns-clause-answer : goal.returns-clause-answer
returns-clause-answer c =
    let old : Listening = record { rows = c.self.inside.slots.items; turns = c.self.inside.turns.entries; issued = c.self.inside.issued } in
    let row = c.index_mut-slot.result.now in
    let first : slice_get row.waiting 0 ≡ Some c.in-Some-take_first.first = sym c.in-Some-take_first.ensures.first in
    let first_event : IsEarliest old row c.in-Some-take_first.first = earliest old c.self.inside.firsts c.self.invariant c.in-Some.at c.in-Some.ensures.first row c.in-Some-take_first.first c.index_mut-slot.ensures.value first in
    let same : row.listener.listener ≡ c.listener.result.now.listener =
    ap (λ (r : Row). r.listener.listener) (c.index_mut-slot.ensures.value ∙ get_or_default old.rows c.in-Some.at row c.index.result.now (place_there c).within ∙ sym c.index.ensures) ∙ ap (λ (l : ListenerRow). l.listener) (sym c.listener.ensures.listener) in
    subst (λ (l : Listening). IsHanded l c.listener.result.now.listener c.in-Some-take_first.first.event) c.self.view_is
    (record { row = row; next = c.in-Some-take_first.first; to = same; with = refl; earliest = first_event })

pub returns-clause-rows : goal.returns-clause-rows
returns-clause-rows c = written c ∙ ap (λ (l : Listening). change c.listener.result.now.listener without_first l.rows) c.self.view_is

pub returns-in_default-clause-stands : goal.returns-in_default-clause-stands
returns-in_default-clause-stands c = handed_stands c.args.self.now c.args.self.now c.args.tag (answer.Nothing c.in_ok-busy.busy) refl refl refl

pub returns-clause-stands : goal.returns-clause-stands
returns-clause-stands c =
    handed_stands c.args.self.now _ c.args.tag (answer.Handed c.listener.result.now.listener c.in-Some-take_first.first.event) (returns-clause-rows c) (search rules) (search rules)
