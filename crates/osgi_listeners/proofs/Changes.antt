-- The place of a listener, a change at one, and what stays true of the fields.
use Rattle.std.proofs.Common.{◌≡◌, ◌≢◌, ◌⊎◌, inl, inr, ◌<◌, ◌≤◌, ℕ, suc, List, [], ◌∷◌, length, set, get_or, ap, sym, subst, refl, ◌∙◌, arith, get_or-set_other, get_or-set_same}
use Rattle.std.specs.Prelude.{Bool, true, false, cond, Option, None, Some, Result, Ok, Err, MatchOption, IfSome, All, Contains, slice_get}
use Rattle.std.specs.List.Sorted.{IsBinarySearchResult, IsNonDecreasingBy, IsPartitionPoint, IsSearchInRange}
use Rattle.std.specs.Ordering.{nat_cmp, ordering_index}
use Rattle.std.specs.Result.{result_ok}
use Rattle.std.specs.declared.cmp.Ordering.TheVariants.{Less, Greater}
use Rattle.std.proofs.lemmas.Bool.Decides.{nat_tests}
use Rattle.std.proofs.lemmas.Cmp.{ranked}
use Rattle.std.proofs.lemmas.List.Folds.{find_at}
use Rattle.std.proofs.lemmas.List.Sums.{position_or_len_is}
use Rattle.std.proofs.lemmas.Option.{slice_get_read}
use Rattle.std.proofs.lemmas.Bool.{cases_eq, cases_lt, eq-eqb, ne_eqb}
use Rattle.std.proofs.lemmas.List.{get_or-map, length-map, length-set, same_lists, get_or_default}
use Rattle.osgi_base.specs.declared.ids.ListenerId.{ListenerId}
use Rattle.osgi_base.specs.declared.ids.Tag.{Tag}
use Rattle.osgi_listeners.specs.Rows.{AreInOrder, AreListeners, AreRising, change, id_of, is_in_turn, is_listener, IsInPlace, listener_of, listeners_in, Listening, Row, row_at}
use Rattle.osgi_listeners.specs.computed.Kept.{AreFirsts, first_place, IsAbsent, IsPlaceOf, open_place}
use Rattle.osgi_listeners.specs.computed.Tournaments.{none, number_at}
use Rattle.osgi_listeners.specs.laws.Ids.{apart, ids_do_not_fall, Rise}

-- ---- the place of a listener

comparisons_rise : (rows : List Row) → Rise rows → (id : ℕ) → IsNonDecreasingBy (λ row. ordering_index (nat_cmp (id_of row) id)) rows
comparisons_rise rows rise id i j d before within =
    let not_less = ids_do_not_fall rows rise i j d before within in
    grind (arith, nat_tests)

missed_by : (rows : List Row) (listener : ListenerId) (i k : ℕ) (d : Row) → IsPartitionPoint (λ row. nat_cmp (id_of row) listener.0 ≡ Less) (λ row. nat_cmp (id_of row) listener.0 ≡ Greater) rows i → k < length rows →
    (k < i) ⊎ (i ≤ k) → ¬ (id_of (get_or rows k d) ≡ listener.0)
missed_by rows listener i k d parted within (inl before) same =
    let below : id_of (get_or rows k d) < listener.0 = ranked _ listener.0 _ (sym (parted.0 k d (omega arith) before)) in
    omega (arith, below, same)
missed_by rows listener i k d parted within (inr after) same =
    let above : listener.0 < id_of (get_or rows k d) = ranked _ listener.0 _ (sym (parted.1 k d after within)) in
    omega (arith, above, same)

-- a binary search by id ends at the listener's row, if it is live
pub searched : (rows : List Row) → Rise rows → (listener : ListenerId) (r : Result ℕ ℕ) → IsSearchInRange r (length rows) → IsBinarySearchResult (λ row. nat_cmp (id_of row) listener.0) rows r →
    MatchOption (result_ok r) (IsAbsent listener rows) (IsPlaceOf listener rows)
searched rows rise listener (Ok i) within equal = record { within = within; is = λ d. ranked _ listener.0 _ (sym (equal d)) }
searched rows rise listener (Err i) within parted = λ k d inside. missed_by rows listener i k d (parted (comparisons_rise rows rise listener.0)) inside (cases_lt k i)

-- the row that is found
pub row_found : (rows : List Row) → Rise rows → (listener : ListenerId) (i : ℕ) (row : Row) → IsPlaceOf listener rows i → row ≡ get_or rows i row → row_at listener rows ≡ Some row
row_found rows rise listener i row place is =
    find_at (is_listener listener) rows
    ∙ ap (slice_get rows) (position_or_len_is (is_listener listener) rows i row (omega (arith, place.within)) (λ k before. ne_eqb (id_of (get_or rows k row)) listener.0 (λ same. apart rows rise k i row (omega (arith, before, place.within)) place.within (λ e. omega (arith, before, e)) (same ∙ sym (place.is row))))
    (λ w. eq-eqb (id_of (get_or rows i row)) listener.0 (place.is row)))
    ∙ slice_get_read rows (length rows) i row refl place.within is

pub row_absent : (rows : List Row) (listener : ListenerId) → IsAbsent listener rows → row_at listener rows ≡ None
row_absent [] listener absent = refl
row_absent (row ∷ rest) listener absent =
    rw (ne_eqb (id_of row) listener.0 (absent 0 row (omega arith))) (row_absent rest listener (λ k d within. absent (suc k) d (omega (arith, within))))

-- what is said of the row that is found is said of the row of the listener
pub said_of : (rows : List Row) → Rise rows → (listener : ListenerId) (P : Row → Type 0) (row : Row) → Contains rows row → id_of row ≡ listener.0 → IfSome (row_at listener rows) P → P row
said_of rows rise listener P row there same said =
    let place : IsPlaceOf listener rows there.0 = record { within = there.1; is = λ d. ap id_of (get_or_default rows there.0 d row there.1 ∙ there.2) ∙ same } in
    let found : row_at listener rows ≡ Some row = row_found rows rise listener there.0 row place (sym there.2) in
    subst (λ (o : Option Row). IfSome o P) found said

-- ---- a change at a listener

module _ (listener : ListenerId) (f : Row → Row) where
  pub changed_here : (row : Row) → id_of row ≡ listener.0 → cond (is_listener listener row) (f row) row ≡ f row
  changed_here row is = ap (λ t. cond t (f row) row) (eq-eqb (id_of row) listener.0 is)

  pub changed_elsewhere : (row : Row) → ¬ (id_of row ≡ listener.0) → cond (is_listener listener row) (f row) row ≡ row
  changed_elsewhere row is_not = ap (λ t. cond t (f row) row) (ne_eqb (id_of row) listener.0 is_not)

  pub get_or-change : (rows : List Row) (k : ℕ) (d : Row) → k < length rows → get_or (change listener f rows) k d ≡ cond (is_listener listener (get_or rows k d)) (f (get_or rows k d)) (get_or rows k d)
  get_or-change rows k d within = get_or-map (λ row. cond (is_listener listener row) (f row) row) rows k d d within

  pub length-change : (rows : List Row) → length (change listener f rows) ≡ length rows
  length-change rows = length-map rows (λ row. cond (is_listener listener row) (f row) row)

  -- no row is of the listener
  pub change_absent : (rows : List Row) → IsAbsent listener rows → change listener f rows ≡ rows
  change_absent rows absent = same_lists _ _ (length-change rows) (λ k d within.
      let inside : k < length rows = subst (λ n. k < n) (length-change rows) within in
      get_or-change rows k d inside ∙ changed_elsewhere (get_or rows k d) (absent k d inside))

  -- a write at the place of the listener changes it
  pub change_at : (rows : List Row) (i : ℕ) (row : Row) → Rise rows → IsPlaceOf listener rows i → get_or rows i row ≡ row → set rows i (f row) ≡ change listener f rows
  change_at rows i row rise place is = same_lists _ _ (length-set rows i (f row) ∙ sym (length-change rows)) (λ k d within.
      let inside : k < length rows = subst (λ n. k < n) (length-set rows i (f row)) within in
      at k d inside (cases_eq k i))
    where
      at : (k : ℕ) (d : Row) → k < length rows → (k ≡ i) ⊎ (k ≢ i) → get_or (set rows i (f row)) k d ≡ get_or (change listener f rows) k d
      at k d inside (inl same) =
          ap (λ n. get_or (set rows i (f row)) n d) same
          ∙ get_or-set_same rows i (f row) d place.within
          ∙ sym (changed_here row (ap id_of (sym is) ∙ place.is row))
          ∙ ap (λ r. cond (is_listener listener r) (f r) r) (sym (ap (λ n. get_or rows n d) same ∙ default place.within ∙ is))
          ∙ sym (get_or-change rows k d inside)
        where
          default : i < length rows → get_or rows i d ≡ get_or rows i row
          default inside' = get_or_default rows i d row inside'
      at k d inside (inr differ) =
          get_or-set_other rows i k (f row) d differ
          ∙ sym (changed_elsewhere (get_or rows k d) (λ e. apart rows rise k i d inside place.within differ (e ∙ sym (place.is d))))
          ∙ sym (get_or-change rows k d inside)

  -- where the listener's row is found
  pub get_or-change_at : (rows : List Row) (i : ℕ) (d : Row) → IsPlaceOf listener rows i → get_or (change listener f rows) i d ≡ f (get_or rows i d)
  get_or-change_at rows i d place = get_or-change rows i d place.within ∙ changed_here (get_or rows i d) (place.is d)

-- ---- a change that keeps who the listeners are

same_by : (f : Row → Row) → ((row : Row) → listener_of (f row) ≡ listener_of row) → (row : Row) (here : Bool) → listener_of (cond here (f row) row) ≡ listener_of row
same_by f keeps row true = keeps row
same_by f keeps row false = refl

pub listeners_in-change : (listener : ListenerId) (f : Row → Row) → ((row : Row) → listener_of (f row) ≡ listener_of row) → (rows : List Row) → listeners_in (change listener f rows) ≡ listeners_in rows
listeners_in-change listener f keeps [] = refl
listeners_in-change listener f keeps (row ∷ rest) =
    λ i. same_by f keeps row (is_listener listener row) i ∷ listeners_in-change listener f keeps rest i

pub in_order_change : (listener : ListenerId) (f : Row → Row) → ((row : Row) → listener_of (f row) ≡ listener_of row) → (l : Listening) (turns : List (ℕ × Tag)) → ((row : Row) → id_of row ≡ listener.0 → Contains l.rows row → IsInPlace row → IsInPlace (f row)) → AreRising turns → AreInOrder l →
    AreInOrder (record { rows = change listener f l.rows; turns = turns; issued = l.issued })
in_order_change listener f keeps l turns places rising order = record {
  listeners = subst (λ ls. AreListeners ls l.issued) (sym (listeners_in-change listener f keeps l.rows)) order.listeners;
  waiting = λ k d within.
      let inside : k < length l.rows = subst (λ n. k < n) (length-change listener f l.rows) within in
      subst IsInPlace (sym (get_or-change listener f l.rows k d inside)) (at (get_or l.rows k d) (k, inside, get_or_default l.rows k (get_or l.rows k d) d inside) (order.waiting k d inside));
  turns = rising;
}
  where
    at : (row : Row) → Contains l.rows row → IsInPlace row → IsInPlace (cond (is_listener listener row) (f row) row)
    at row there kept = by (cases_eq (id_of row) listener.0)
      where
        by : (id_of row ≡ listener.0) ⊎ (id_of row ≢ listener.0) → IsInPlace (cond (is_listener listener row) (f row) row)
        by (inl same) = subst IsInPlace (sym (changed_here listener f row same)) (places row same there kept)
        by (inr differ) = subst IsInPlace (sym (changed_elsewhere listener f row differ)) kept

-- ---- the places of the first events

-- one listener is changed, and what stands at its place; the turns of the others stay
pub firsts_change : (listener : ListenerId) (f : Row → Row) (firsts : List ℕ) (turns turns' : List (ℕ × Tag)) (rows : List Row) (i number : ℕ) → Rise rows → length rows ≤ length firsts → IsPlaceOf listener rows i →
    ((d : Row) → number ≡ open_place turns' (f (get_or rows i d))) → ((row : Row) → id_of row ≢ listener.0 → is_in_turn turns' row ≡ is_in_turn turns row) →
    AreFirsts firsts turns rows → AreFirsts (set firsts i number) turns' (change listener f rows)
firsts_change listener f firsts turns turns' rows i number rise few place is others kept = record {
  at = λ k d within. at k d (subst (λ n. k < n) (length-change listener f rows) within) (cases_eq k i);
  past = λ k beyond.
      let outside : length rows ≤ k = subst (λ n. n ≤ k) (length-change listener f rows) beyond in
      let inside = place.within in
      get_or-set_other firsts i k number none (λ e. omega (arith, outside, inside, e)) ∙ kept.past k outside;
}
  where
    at : (k : ℕ) (d : Row) → k < length rows → (k ≡ i) ⊎ (k ≢ i) → number_at (set firsts i number) k ≡ open_place turns' (get_or (change listener f rows) k d)
    at k d inside (inl same) =
        let within = place.within in
        ap (number_at (set firsts i number)) same
        ∙ get_or-set_same firsts i number none (omega (arith, within, few))
        ∙ is d
        ∙ ap (open_place turns') (sym (get_or-change_at listener f rows i d place))
        ∙ ap (λ n. open_place turns' (get_or (change listener f rows) n d)) (sym same)
    at k d inside (inr differ) =
        let row = get_or rows k d in
        let other : id_of row ≢ listener.0 = λ e. apart rows rise k i d inside place.within differ (e ∙ sym (place.is d)) in
        get_or-set_other firsts i k number none differ
        ∙ kept.at k d inside
        ∙ ap (λ t. cond t none (first_place row)) (sym (others row other))
        ∙ ap (open_place turns') (sym (changed_elsewhere listener f row other))
        ∙ ap (open_place turns') (sym (get_or-change listener f rows k d inside))

-- only the turns change, and of no live listener
pub firsts_turns : (firsts : List ℕ) (turns turns' : List (ℕ × Tag)) (rows : List Row) → All (λ row. is_in_turn turns' row ≡ is_in_turn turns row) rows → AreFirsts firsts turns rows → AreFirsts firsts turns' rows
firsts_turns firsts turns turns' rows same kept = record {
  at = λ k d within. kept.at k d within ∙ ap (λ t. cond t none (first_place (get_or rows k d))) (sym (same k d within));
  past = kept.past;
}
