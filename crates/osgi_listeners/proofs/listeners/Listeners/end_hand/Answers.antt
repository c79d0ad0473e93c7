-- All that is true of the fields stays so where the turn ends.
use Rattle.std.proofs.Common.{◌≡◌, ◌≢◌, ℕ, List, ap, get_or, subst, sym, ◌∙◌, rules}
use Rattle.std.specs.BTreeMap.{is_at}
use Rattle.std.specs.Ordering.{nat_cmp}
use Rattle.std.specs.Prelude.{None}
use Rattle.std.proofs.lemmas.List.{get_or_default}
use Rattle.osgi_listeners.specs.Rows.{AreRising, Listening, Row, tag_of}
use Rattle.osgi_listeners.specs.computed.Kept.{first_place, IsAbsent, IsKept, IsPlaceOf}
use Rattle.osgi_listeners.specs.laws.Turns.{rising-removed}
use Rattle.osgi_listeners.proofs.Handing.{kept_ended, kept_ended_absent, other_key}
use Rattle.osgi_listeners.proofs.Standing.{ended_stands}
use Rattle.osgi_listeners.proofs.listeners.Listeners.end_hand.Goals as goal

pub invariant_of-self : goal.invariant_of-self
invariant_of-self c =
    let old : Listening = record { rows = c.self.inside.slots.items; turns = c.self.inside.turns.entries; issued = c.self.inside.issued } in
    let turns = c.remove.new.self.entries in
    let at = c.in-Some-place_of.at in
    let place : IsPlaceOf c.args.listener old.rows at = subst (λ (rs : List Row). IsPlaceOf c.args.listener rs at) c.deref.ensures.value c.in-Some-place_of.ensures.place in
    let slot = c.index.result.now in
    let there : slot ≡ get_or old.rows at slot = c.index.ensures in
    let ended : tag_of c.args.listener.0 turns ≡ None = c.remove.ensures.updates.1 in
    let rising : AreRising turns = subst AreRising (sym c.remove.ensures.entries) (rising-removed (is_at (nat_cmp c.args.listener.0)) old.turns c.self.invariant.in_order.turns) in
    let others : (q : ℕ) → q ≢ c.args.listener.0 → tag_of q turns ≡ tag_of q old.turns = λ q differ. c.remove.ensures.updates.2 q (other_key c.args.listener.0 q differ) in
    subst (λ (numbers : List ℕ). IsKept (record { rows = old.rows; turns = turns; issued = old.issued }) numbers c.self.inside.by_kind) (sym c.set.ensures.set)
    (kept_ended old c.self.inside.firsts c.args.listener turns c.self.invariant rising ended others at c.first_place-first.result place
    (λ d. c.first_place-first.ensures.place ∙ ap first_place (there ∙ get_or_default old.rows at slot d place.within)))

pub invariant_of-self-in_default-place_of : goal.invariant_of-self-in_default-place_of
invariant_of-self-in_default-place_of c =
    let old : Listening = record { rows = c.self.inside.slots.items; turns = c.self.inside.turns.entries; issued = c.self.inside.issued } in
    let turns = c.remove.new.self.entries in
    let absent : IsAbsent c.args.listener old.rows = subst (λ (rows : List Row). IsAbsent c.args.listener rows) c.deref.ensures.value c.in_default-place_of.ensures.place in
    let ended : tag_of c.args.listener.0 turns ≡ None = c.remove.ensures.updates.1 in
    let rising : AreRising turns = subst AreRising (sym c.remove.ensures.entries) (rising-removed (is_at (nat_cmp c.args.listener.0)) old.turns c.self.invariant.in_order.turns) in
    let others : (q : ℕ) → q ≢ c.args.listener.0 → tag_of q turns ≡ tag_of q old.turns = λ q differ. c.remove.ensures.updates.2 q (other_key c.args.listener.0 q differ) in
    kept_ended_absent old c.self.inside.firsts c.args.listener turns c.self.invariant rising ended others absent

pub returns-clause-stands : goal.returns-clause-stands
returns-clause-stands c = ended_stands c.args.self.now c.match-place_of.self c.args.tag c.args.listener (search rules) (search rules) (search rules)
