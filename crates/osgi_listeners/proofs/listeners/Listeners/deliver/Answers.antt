-- The row at the place has the event, and all that is true of the fields stays so.
use Rattle.std.proofs.Common.{◌≡◌, ℕ, List, ap, set, get_or, subst, sym, ◌∙◌}
use Rattle.std.specs.Prelude.{Option, None, Some, IfSome}
use Rattle.std.proofs.lemmas.List.{get_or_default}
use Rattle.osgi_listeners.specs.Rows.{Accepts, change, IsLater, Listening, Row, row_at, told}
use Rattle.osgi_listeners.specs.computed.Kept.{IsAbsent, IsKept, IsPlaceOf, open_place}
use Rattle.osgi_listeners.specs.declared.row.Waiting.{Waiting}
use Rattle.osgi_listeners.proofs.Changes.{change_absent, change_at, row_found}
use Rattle.osgi_listeners.specs.laws.Ids.{ids_rise, Rise}
use Rattle.osgi_listeners.proofs.Handing.{kept_told}
use Rattle.osgi_listeners.proofs.listeners.Listeners.deliver.Goals as goal

pub returns-in_default-clause-rows : goal.returns-in_default-clause-rows
returns-in_default-clause-rows c =
    let absent : IsAbsent c.args.listener c.self.inside.slots.items = subst (λ (rows : List Row). IsAbsent c.args.listener rows) c.deref.ensures.value c.in_default.ensures.place in
    ap (λ (l : Listening). l.rows) (sym c.self.view_is)
    ∙ sym (change_absent c.args.listener (told (record { place = c.args.place; event = c.args.event })) c.self.inside.slots.items absent)
    ∙ ap (λ (l : Listening). change c.args.listener (told (record { place = c.args.place; event = c.args.event })) l.rows) c.self.view_is

accepted : {o : Option Row} {row : Row} {place : ℕ} → o ≡ Some row → IfSome o (Accepts place) → Accepts place row
accepted {place = place} is said = subst (λ (r : Option Row). IfSome r (Accepts place)) is said

later_of : (o : Option Row) (place : ℕ) → IfSome o (Accepts place) → IfSome o (IsLater place)
later_of None place said = tt
later_of (Some row) place said = said.1

pub push-requires : goal.push-requires
push-requires c =
    let rows = c.self.inside.slots.items in
    let rise : Rise rows = ids_rise rows c.self.invariant.in_order.listeners.rising in
    let place : IsPlaceOf c.args.listener rows c.in-Some.at = subst (λ (rs : List Row). IsPlaceOf c.args.listener rs c.in-Some.at) c.deref.ensures.value c.in-Some.ensures.place in
    let slot = c.index_mut-slot.result.now in
    let there : slot ≡ get_or rows c.in-Some.at slot = c.index_mut-slot.ensures.value in
    let found : row_at c.args.listener rows ≡ Some slot = row_found rows rise c.args.listener c.in-Some.at slot place there in
    record { room = (accepted (ap (λ (l : Listening). row_at c.args.listener l.rows) (sym c.self.view_is) ∙ found) c.requires.accepts).0 }

written : (c : goal.After-set) → set c.self.inside.slots.items c.in-Some.at c.push.new.self ≡ change c.args.listener (told (record { place = c.args.place; event = c.args.event })) c.self.inside.slots.items
written c =
    let rows = c.self.inside.slots.items in
    let rise : Rise rows = ids_rise rows c.self.invariant.in_order.listeners.rising in
    let place : IsPlaceOf c.args.listener rows c.in-Some.at = subst (λ (rs : List Row). IsPlaceOf c.args.listener rs c.in-Some.at) c.deref.ensures.value c.in-Some.ensures.place in
    let slot = c.index_mut-slot.result.now in
    let there : slot ≡ get_or rows c.in-Some.at slot = c.index_mut-slot.ensures.value in
    ap (set rows c.in-Some.at) c.push.ensures.told ∙ change_at c.args.listener (told (record { place = c.args.place; event = c.args.event })) rows c.in-Some.at slot rise place (sym there)

pub invariant_of-self : goal.invariant_of-self
invariant_of-self c =
    let old : Listening = record { rows = c.self.inside.slots.items; turns = c.self.inside.turns.entries; issued = c.self.inside.issued } in
    let place : IsPlaceOf c.args.listener old.rows c.in-Some.at = subst (λ (rs : List Row). IsPlaceOf c.args.listener rs c.in-Some.at) c.deref.ensures.value c.in-Some.ensures.place in
    let w : Waiting = record { place = c.args.place; event = c.args.event } in
    let slot = c.index_mut-slot.result.now in
    let there : slot ≡ get_or old.rows c.in-Some.at slot = c.index_mut-slot.ensures.value in
    let later : IfSome (row_at c.args.listener old.rows) (IsLater c.args.place) = later_of (row_at c.args.listener old.rows) c.args.place (subst (λ (l : Listening). IfSome (row_at c.args.listener l.rows) (Accepts c.args.place)) (sym c.self.view_is) c.requires.accepts) in
    subst (λ (p : List Row × List ℕ). IsKept (record { rows = p.0; turns = old.turns; issued = old.issued }) p.1 c.self.inside.by_kind) (λ i. (sym (written c) i, sym c.set.ensures.set i))
    (kept_told old c.self.inside.firsts c.args.listener c.in-Some.at c.open_place-first.result w c.self.invariant place c.requires.fits later
    (λ d. c.open_place-first.ensures.place ∙ ap (open_place old.turns) (c.push.ensures.told ∙ ap (told w) (there ∙ get_or_default old.rows c.in-Some.at slot d place.within))))

pub returns-clause-rows : goal.returns-clause-rows
returns-clause-rows c = written c ∙ ap (λ (l : Listening). change c.args.listener (told (record { place = c.args.place; event = c.args.event })) l.rows) c.self.view_is
