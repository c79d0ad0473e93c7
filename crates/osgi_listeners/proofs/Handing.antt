-- Which event can be handed first, and what stays true of the fields where one is put behind others, where one is handed, and where a turn ends.
use Rattle.std.proofs.Common.{◌≡◌, ◌≢◌, ◌⊎◌, inl, inr, ◌<◌, ◌≤◌, ℕ, zero, suc, List, [], ◌∷◌, length, set, get_or, ap, sym, subst, refl, ◌∙◌, arith}
use Rattle.std.specs.Prelude.{◌&&◌, not, Bool, true, false, cond, nat_lt, Option, None, Some, is_some, All, AllPairs, Any, Contains, MatchOption, IfSome, slice_get, drop}
use Rattle.std.specs.BTreeMap.{is_at}
use Rattle.std.specs.List.{list_any}
use Rattle.std.specs.Ordering.{nat_cmp}
use Rattle.std.proofs.lemmas.Bool.{cases_lt, lt-ltb}
use Rattle.std.proofs.lemmas.Bool.Decides.{nat_tests}
use Rattle.std.proofs.lemmas.List.{get_or_default, length-map, length-set}
use Rattle.std.proofs.lemmas.List.Elements.{All-push}
use Rattle.std.proofs.lemmas.List.Folds.{list_any_none, list_any-from_Any}
use Rattle.std.proofs.lemmas.List.Quantifiers.{all_pairs_push}
use Rattle.osgi_base.specs.declared.ids.ListenerId.{ListenerId}
use Rattle.osgi_base.specs.declared.ids.Tag.{Tag}
use Rattle.osgi_listeners.specs.Rows.{AreInPlace, AreRising, change, ComesFirst, id_of, is_in_turn, is_listener, is_open, IsEarliest, IsInPlace, IsLater, listener_of, Listening, Row, row_at, tag_of, told, without_first}
use Rattle.osgi_listeners.specs.computed.Kept.{first_in, first_place, IsAbsent, IsKept, IsPlaceOf, open_place}
use Rattle.osgi_listeners.specs.computed.Tournaments.{AreNone, IsFirstLeast, none, number_at}
use Rattle.osgi_listeners.specs.declared.kind_index.KindIndex.{KindIndex}
use Rattle.osgi_listeners.specs.declared.row.Waiting.{Waiting}
use Rattle.osgi_listeners.proofs.ByKind.{by_kind_same}
use Rattle.osgi_listeners.proofs.Orders.{any_of}
use Rattle.osgi_listeners.proofs.Changes.{firsts_change, firsts_turns, in_order_change, listeners_in-change, said_of}
use Rattle.osgi_listeners.specs.laws.Ids.{ids_do_not_fall, ids_rise}

-- ---- what can be handed

open_by : (t : Bool) (waiting : List Waiting) → cond t none (first_in waiting) < none → (not t && nat_lt 0 (length waiting)) ≡ true
open_by true waiting low = absurd (omega (arith, low))
open_by false [] low = absurd (omega (arith, low))
open_by false (w ∷ rest) low = lt-ltb 0 (suc (length rest)) (omega arith)

closed_by : (t : Bool) (waiting : List Waiting) → AreInPlace waiting → cond t none (first_in waiting) ≡ none → (not t && nat_lt 0 (length waiting)) ≡ false
closed_by true waiting places is = refl
closed_by false [] places is = refl
closed_by false (w ∷ rest) places is = let low = places.fit 0 w (omega arith) in absurd (omega (arith, low, is))

free_by : (t : Bool) (number : ℕ) → cond t none number < none → t ≡ false
free_by true number low = absurd (omega (arith, low))
free_by false number low = refl

waits_by : (t : Bool) (waiting : List Waiting) → cond t none (first_in waiting) < none → slice_get waiting 0 ≡ None → ⊥
waits_by true waiting low absent = omega (arith, low)
waits_by false [] low absent = omega (arith, low)
waits_by false (w ∷ rest) low absent = cc absent

first_is : (waiting : List Waiting) (next : Waiting) → slice_get waiting 0 ≡ Some next → first_in waiting ≡ next.place
first_is [] next is = absurd (cc is)
first_is (w ∷ rest) next is = let same : w ≡ next = cc is in ap (λ (v : Waiting). v.place) same

-- the first that waits has the least place
first_below : (waiting : List Waiting) → AreInPlace waiting → (k : ℕ) (d : Waiting) → k < length waiting → first_in waiting ≤ (get_or waiting k d).place
first_below [] places k d within = absurd (omega (arith, within))
first_below (w ∷ rest) places zero d within = omega arith
first_below (w ∷ rest) places (suc k) d within = let later = places.rising 0 (suc k) d (omega arith) within in omega (arith, later)

module _ (l : Listening) (numbers : List ℕ) {index : KindIndex} (kept : IsKept l numbers index) where
  none_open : AreNone numbers → All (λ row. is_open l.turns row ≡ false) l.rows
  none_open are_none k d within = closed_by (is_in_turn l.turns (get_or l.rows k d)) (get_or l.rows k d).waiting (kept.in_order.waiting k d within) (sym (kept.firsts.at k d within) ∙ are_none k)

  module _ (at : ℕ) (least : IsFirstLeast numbers at) where
    pub first_within : at < length l.rows
    first_within = by (cases_lt at (length l.rows))
      where
        by : (at < length l.rows) ⊎ (length l.rows ≤ at) → at < length l.rows
        by (inl within) = within
        by (inr beyond) = let past = kept.firsts.past at beyond in let there = least.there in absurd (omega (arith, past, there))

    open_number : (d : Row) → open_place l.turns (get_or l.rows at d) < none
    open_number d = let is = kept.firsts.at at d first_within in let there = least.there in omega (arith, is, there)

    pub is_free : (d : Row) → is_in_turn l.turns (get_or l.rows at d) ≡ false
    is_free d = free_by (is_in_turn l.turns (get_or l.rows at d)) _ (open_number d)

    is_open_there : (d : Row) → is_open l.turns (get_or l.rows at d) ≡ true
    is_open_there d = open_by (is_in_turn l.turns (get_or l.rows at d)) (get_or l.rows at d).waiting (open_number d)

    pub waits_there : (row : Row) → row ≡ get_or l.rows at row → slice_get row.waiting 0 ≡ None → ⊥
    waits_there row is absent = waits_by (is_in_turn l.turns (get_or l.rows at row)) (get_or l.rows at row).waiting (open_number row) (ap (λ (r : Row). slice_get r.waiting 0) (sym is) ∙ absent)

    pub earliest : (row : Row) (next : Waiting) → row ≡ get_or l.rows at row → slice_get row.waiting 0 ≡ Some next → IsEarliest l row next
    earliest row next is first = record {
      live = (at, first_within, sym is);
      free = ap (is_in_turn l.turns) is ∙ is_free row;
      first = first;
      earliest = λ k d within free. λ j e inside. compare k d within free j e inside;
    }
      where
        mine : number_at numbers at ≡ next.place
        mine =
            kept.firsts.at at row first_within
            ∙ ap (λ t. cond t none (first_place (get_or l.rows at row))) (is_free row)
            ∙ ap first_place (sym is)
            ∙ first_is row.waiting next first

        compare : (k : ℕ) (d : Row) → k < length l.rows → is_in_turn l.turns (get_or l.rows k d) ≡ false → (j : ℕ) (e : Waiting) → j < length (get_or l.rows k d).waiting → ComesFirst next.place (id_of row) (get_or (get_or l.rows k d).waiting j e).place (id_of (get_or l.rows k d))
        compare k d within free j e inside =
            let theirs : number_at numbers k ≡ first_place (get_or l.rows k d) = kept.firsts.at k d within ∙ ap (λ t. cond t none (first_place (get_or l.rows k d))) free in
            let low = first_below (get_or l.rows k d).waiting (kept.in_order.waiting k d within) j e inside in
            let least_there = least.least k in
            by (cases_lt next.place (get_or (get_or l.rows k d).waiting j e).place) theirs low least_there
          where
            by : (next.place < (get_or (get_or l.rows k d).waiting j e).place) ⊎ ((get_or (get_or l.rows k d).waiting j e).place ≤ next.place) →
                number_at numbers k ≡ first_place (get_or l.rows k d) → first_in (get_or l.rows k d).waiting ≤ (get_or (get_or l.rows k d).waiting j e).place → number_at numbers at ≤ number_at numbers k →
                ComesFirst next.place (id_of row) (get_or (get_or l.rows k d).waiting j e).place (id_of (get_or l.rows k d))
            by (inl before) theirs low least_there = inl before
            by (inr not_before) theirs low least_there = inr (omega (arith, not_before, theirs, low, least_there, mine), after (cases_lt k at))
              where
                after : (k < at) ⊎ (at ≤ k) → id_of row ≤ id_of (get_or l.rows k d)
                after (inl sooner) = let more = least.first k sooner in absurd (omega (arith, more, not_before, theirs, low, mine))
                after (inr later) =
                    let ids = ids_do_not_fall l.rows (ids_rise l.rows kept.in_order.listeners.rising) at k d later within in
                    let same = ap id_of (is ∙ get_or_default l.rows at row d first_within) in
                    omega (arith, ids, same)

  any_open : (at : ℕ) → IsFirstLeast numbers at → Any (λ row. is_open l.turns row ≡ true) l.rows
  any_open at least =
      let d = any_of l.rows at (first_within at least) in
      (at, get_or l.rows at d, first_within at least, get_or_default l.rows at (get_or l.rows at d) d (first_within at least), is_open_there at least d)

  pub ready_by : (r : Option ℕ) → MatchOption r (AreNone numbers) (IsFirstLeast numbers) → is_some r ≡ list_any (is_open l.turns) l.rows
  ready_by None are_none = sym (list_any_none (is_open l.turns) l.rows (none_open are_none))
  ready_by (Some at) least = sym (list_any-from_Any (is_open l.turns) l.rows (any_open at least))

  pub none_open_by : AreNone numbers → All (λ row. is_open l.turns row ≡ false) l.rows
  none_open_by = none_open

-- ---- an event more

pub told_in_place : (w : Waiting) (row : Row) → w.place < none → IsLater w.place row → IsInPlace row → IsInPlace (told w row)
told_in_place w row low later places = record {
  rising = all_pairs_push (λ (a b : Waiting). a.place < b.place) row.waiting w places.rising later;
  fit = All-push (λ (v : Waiting). v.place < none) row.waiting w places.fit low;
}

-- and one less
pub first_out_in_place : (row : Row) → IsInPlace row → IsInPlace (without_first row)
first_out_in_place row places = record { rising = by row.waiting places.rising; fit = out row.waiting places.fit }
  where
    by : (ws : List Waiting) → AllPairs (λ (a b : Waiting). a.place < b.place) ws → AllPairs (λ (a b : Waiting). a.place < b.place) (drop 1 ws)
    by [] rising = rising
    by (w ∷ rest) rising = λ i j d before within. rising (suc i) (suc j) d (omega (arith, before)) (omega (arith, within))

    out : (ws : List Waiting) → All (λ (a : Waiting). a.place < none) ws → All (λ (a : Waiting). a.place < none) (drop 1 ws)
    out [] fit = fit
    out (w ∷ rest) fit = λ k d within. fit (suc k) d (omega (arith, within))

-- ---- turns

pub other_key : (k q : ℕ) → q ≢ k → is_at (nat_cmp k) q ≡ false
other_key k q differ = grind (arith, nat_tests)

in_turn_same : (turns turns' : List (ℕ × Tag)) (row : Row) → tag_of (id_of row) turns' ≡ tag_of (id_of row) turns → is_in_turn turns' row ≡ is_in_turn turns row
in_turn_same turns turns' row same = ap is_some same

-- ---- the fields after a change at one listener

module _ (l : Listening) (numbers : List ℕ) (listener : ListenerId) (at number : ℕ) (f : Row → Row) (turns : List (ℕ × Tag)) {index : KindIndex} (kept : IsKept l numbers index) (place : IsPlaceOf listener l.rows at)
    (keeps : (row : Row) → (f row).listener ≡ row.listener) (places : (row : Row) → id_of row ≡ listener.0 → Contains l.rows row → IsInPlace row → IsInPlace (f row))
    (is : (d : Row) → number ≡ open_place turns (f (get_or l.rows at d))) (rising : AreRising turns) (others : (q : ℕ) → q ≢ listener.0 → tag_of q turns ≡ tag_of q l.turns) where
  pub kept_change : IsKept (record { rows = change listener f l.rows; turns = turns; issued = l.issued }) (set numbers at number) index
  kept_change = record {
    in_order = in_order_change listener f keeps l turns places rising kept.in_order;
    size = length-set numbers at number ∙ kept.size;
    firsts = firsts_change listener f numbers l.turns turns l.rows at number (ids_rise l.rows kept.in_order.listeners.rising) few place is (λ row differ. in_turn_same l.turns turns row (others (id_of row) differ)) kept.firsts;
    by_kind = by_kind_same l.rows (change listener f l.rows) (listeners_in-change listener f keeps l.rows) kept.by_kind;
  }
    where
      few : length l.rows ≤ length numbers
      few = let size = kept.size in let some = kept.in_order.listeners.few in omega (arith, size, some, length-map l.rows listener_of)

-- ---- only the turns change

pub kept_turns : {index : KindIndex} (l : Listening) (turns : List (ℕ × Tag)) (numbers : List ℕ) → AreRising turns → All (λ row. is_in_turn turns row ≡ is_in_turn l.turns row) l.rows → IsKept l numbers index → IsKept (record { rows = l.rows; turns = turns; issued = l.issued }) numbers index
kept_turns l turns numbers rising same kept = record {
  in_order = record { listeners = kept.in_order.listeners; waiting = kept.in_order.waiting; turns = rising };
  size = kept.size;
  firsts = firsts_turns numbers l.turns turns l.rows same kept.firsts;
  by_kind = kept.by_kind;
}

change_nothing : (listener : ListenerId) (rows : List Row) → change listener (λ row. row) rows ≡ rows
change_nothing listener [] = refl
change_nothing listener (row ∷ rest) = λ i. by (is_listener listener row) i ∷ change_nothing listener rest i
  where
    by : (here : Bool) → cond here row row ≡ row
    by true = refl
    by false = refl

-- the turn of a live listener ends
module _ (l : Listening) (numbers : List ℕ) (listener : ListenerId) (turns : List (ℕ × Tag)) {index : KindIndex} (kept : IsKept l numbers index) (rising : AreRising turns) (ended : tag_of listener.0 turns ≡ None) (others : (q : ℕ) → q ≢ listener.0 → tag_of q turns ≡ tag_of q l.turns) where
  open_place_ended : (row : Row) → id_of row ≡ listener.0 → open_place turns row ≡ first_place row
  open_place_ended row same = ap (λ t. cond t none (first_place row)) (ap is_some (ap (λ q. tag_of q turns) same ∙ ended))

  pub kept_ended : (at number : ℕ) → IsPlaceOf listener l.rows at → ((d : Row) → number ≡ first_place (get_or l.rows at d)) → IsKept (record { rows = l.rows; turns = turns; issued = l.issued }) (set numbers at number) index
  kept_ended at number place is =
      subst (λ (rows : List Row). IsKept (record { rows = rows; turns = turns; issued = l.issued }) (set numbers at number) index) (change_nothing listener l.rows)
      (kept_change l numbers listener at number (λ row. row) turns kept place (λ row. refl) (λ row same there places. places) (λ d. is d ∙ sym (open_place_ended (get_or l.rows at d) (place.is d))) rising others)

  -- or of one that is not live any more
  pub kept_ended_absent : IsAbsent listener l.rows → IsKept (record { rows = l.rows; turns = turns; issued = l.issued }) numbers index
  kept_ended_absent absent = kept_turns l turns numbers rising (λ k d within. in_turn_same l.turns turns (get_or l.rows k d) (others (id_of (get_or l.rows k d)) (absent k d within))) kept

-- an event is handed
pub kept_handed : {index : KindIndex} (l : Listening) (numbers : List ℕ) (listener : ListenerId) (at : ℕ) (tag : Tag) (turns : List (ℕ × Tag)) → IsKept l numbers index → IsPlaceOf listener l.rows at → AreRising turns → tag_of listener.0 turns ≡ Some tag → ((q : ℕ) → q ≢ listener.0 → tag_of q turns ≡ tag_of q l.turns) →
    IsKept (record { rows = change listener without_first l.rows; turns = turns; issued = l.issued }) (set numbers at none) index
kept_handed l numbers listener at tag turns kept place rising begun others =
    kept_change l numbers listener at none without_first turns kept place (λ row. refl) (λ row same there places. first_out_in_place row places)
    (λ d. sym (ap (λ t. cond t none (first_place (without_first (get_or l.rows at d)))) (ap is_some (ap (λ q. tag_of q turns) (place.is d) ∙ begun)))) rising others

-- an event is put behind those that wait
pub kept_told : {index : KindIndex} (l : Listening) (numbers : List ℕ) (listener : ListenerId) (at number : ℕ) (w : Waiting) → IsKept l numbers index → IsPlaceOf listener l.rows at → w.place < none → IfSome (row_at listener l.rows) (IsLater w.place) → ((d : Row) → number ≡ open_place l.turns (told w (get_or l.rows at d))) →
    IsKept (record { rows = change listener (told w) l.rows; turns = l.turns; issued = l.issued }) (set numbers at number) index
kept_told l numbers listener at number w kept place low later is =
    kept_change l numbers listener at number (told w) l.turns kept place (λ row. refl)
    (λ row same there places. told_in_place w row low (said_of l.rows (ids_rise l.rows kept.in_order.listeners.rising) listener (IsLater w.place) row there same later) places) is kept.in_order.turns (λ q differ. refl)
