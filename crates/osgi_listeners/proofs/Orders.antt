-- What stays true of the fields where a listener is added, and where listeners are taken out.
use Rattle.std.proofs.Common.{◌≡◌, ◌⊎◌, inl, inr, ◌+◌, ◌<◌, ◌≤◌, ℕ, suc, List, [], ◌∷◌, ◌++◌, length, map, get_or, ap, sym, subst, refl, ◌∙◌, arith}
use Rattle.std.specs.Prelude.{◌&&◌, ◌||◌, Bool, true, false, cond, All, AllPairs, filter}
use Rattle.std.specs.List.{list_any}
use Rattle.std.specs.List.Sorted.{IsStrictlyIncreasing}
use Rattle.std.specs.Str.{bytes_eq}
use Rattle.std.proofs.lemmas.Bool.{cases_lt, eq-eqb, false≢true}
use Rattle.std.proofs.lemmas.List.{get_or-map, get_or_append_left, get_or_push, length-map, length_push, map-append}
use Rattle.std.proofs.lemmas.List.Elements.{All-cons, All-filter, All-push}
use Rattle.std.proofs.lemmas.List.Kept.{AllPairs-filter, AllPairs-from_increasing}
use Rattle.std.proofs.lemmas.List.Quantifiers.{all_pairs_push}
use Rattle.std.proofs.lemmas.Slice.Eq.{bytes_eq-Decides}
use Rattle.osgi_base.specs.declared.ids.BundleId.{BundleId}
use Rattle.osgi_base.specs.declared.ids.Tag.{Tag}
use Rattle.osgi_listeners.specs.Rows.{AreInOrder, bare, AreListeners, is_in_turn, is_named, IsInPlace, listener_of, listeners_in, Listening, new_row, no_listeners, number_of, Row, same_kind}
use Rattle.osgi_listeners.specs.computed.Kept.{IsKept, open_place}
use Rattle.osgi_listeners.specs.computed.Kinds.{ids_in}
use Rattle.osgi_listeners.specs.computed.Tournaments.{AreNone, none, number_at}
use Rattle.osgi_listeners.specs.declared.kind_index.KindIndex.{KindIndex}
use Rattle.osgi_listeners.specs.declared.row.ListenerRow.{ListenerRow}
use Rattle.osgi_listeners.proofs.ByKind.{by_kind_push, by_kind_same}
use Rattle.osgi_ops.specs.declared.kind.Kind.{Kind}

-- ---- no listeners

pub kept_none : (numbers : List ℕ) (index : KindIndex) → length numbers ≡ 4096 → AreNone numbers → ((kind : Kind) → ids_in kind index ≡ []) → IsKept no_listeners numbers index
kept_none numbers index size are_none unlisted = record {
  in_order = record {
    listeners = record {
      rising = λ k within. absurd (omega (arith, within));
      given = λ k d within. absurd (omega (arith, within));
      apart = λ i j d before within. absurd (omega (arith, within));
      few = omega arith;
    };
    waiting = λ k d within. absurd (omega (arith, within));
    turns = tt;
  };
  size = size;
  firsts = record {
    at = λ i d within. absurd (omega (arith, within));
    past = λ i beyond. are_none i;
  };
  by_kind = unlisted;
}

-- ---- numbers that rise, by pairs

abbrev pub Below : ListenerRow → ListenerRow → Type 0
Below a b = number_of a < number_of b

abbrev pub IsGiven : ℕ → ListenerRow → Type 0
IsGiven issued l = (0 < number_of l) × (number_of l ≤ issued)

abbrev pub AreApart : ListenerRow → ListenerRow → Type 0
AreApart a b = a.owner ≡ b.owner → ¬ (a.name ≡ b.name)

pub any_of : {X : Type 0} (xs : List X) (i : ℕ) → i < length xs → X
any_of [] i within = absurd (omega (arith, within))
any_of (x ∷ xs) i within = x

pub pairs_from_rising : (ls : List ListenerRow) → IsStrictlyIncreasing (map number_of ls) → AllPairs Below ls
pairs_from_rising ls rising i j d before within =
    let later = AllPairs-from_increasing (map number_of ls) rising i j 0 before (subst (λ n. j < n) (sym (length-map ls number_of)) within) in
    let low : get_or (map number_of ls) i 0 ≡ number_of (get_or ls i d) = get_or-map number_of ls i d 0 (omega (arith, before, within)) in
    let high : get_or (map number_of ls) j 0 ≡ number_of (get_or ls j d) = get_or-map number_of ls j d 0 within in
    omega (arith, later, low, high)

pub rising_from_pairs : (ls : List ListenerRow) → AllPairs Below ls → IsStrictlyIncreasing (map number_of ls)
rising_from_pairs ls pairs k within =
    let inside : k + 1 < length ls = subst (λ n. k + 1 < n) (length-map ls number_of) within in
    let d = any_of ls (k + 1) inside in
    let later = pairs k (k + 1) d (omega arith) inside in
    let low : get_or (map number_of ls) k 0 ≡ number_of (get_or ls k d) = get_or-map number_of ls k d 0 (omega (arith, inside)) in
    let high : get_or (map number_of ls) (k + 1) 0 ≡ number_of (get_or ls (k + 1) d) = get_or-map number_of ls (k + 1) d 0 inside in
    omega (arith, later, low, high)

-- ---- a listener is added

none_passes : {X : Type 0} (p : X → Bool) (xs : List X) → list_any p xs ≡ false → All (λ x. p x ≡ false) xs
none_passes p [] is = λ k d within. absurd (omega (arith, within))
none_passes {X = X} p (x ∷ xs) is = by (p x) refl is (none_passes p xs)
  where
    by : (here : Bool) → p x ≡ here → (here || list_any p xs) ≡ false → (list_any p xs ≡ false → All (λ y. p y ≡ false) xs) → All (λ y. p y ≡ false) (x ∷ xs)
    by true here any more = absurd (cc any)
    by false here any more = All-cons (λ y. p y ≡ false) x xs here (more any)

-- a listener of the owner and the name passes the test
named_same : (owner : BundleId) (name : List ℕ) (row : Row) → row.listener.owner ≡ owner → row.listener.name ≡ name → is_named owner name row ≡ true
named_same owner name row same_owner same_name =
    ap (λ t. t && bytes_eq row.listener.name name) (eq-eqb row.listener.owner.0 owner.0 (ap (λ (b : BundleId). b.0) same_owner))
    ∙ (bytes_eq-Decides row.listener.name name).1 same_name

module _ (l : Listening) (added : ListenerRow) (numbers : List ℕ) (next : number_of added ≡ l.issued + 1) (room : length l.rows < 4096) (unnamed : list_any (is_named added.owner added.name) l.rows ≡ false) (index index' : KindIndex) (listed : (kind : Kind) → ids_in kind index' ≡ ids_in kind index ++ cond (same_kind added.kind kind) (added.listener ∷ []) [])
    (kept : IsKept l numbers index) where
  added_last : listeners_in (l.rows ++ new_row added ∷ []) ≡ listeners_in l.rows ++ added ∷ []
  added_last = map-append listener_of l.rows (new_row added ∷ [])

  pushed : AreListeners (listeners_in l.rows ++ added ∷ []) (l.issued + 1)
  pushed =
      let given = kept.in_order.listeners.given in
      record {
        rising = rising_from_pairs _ (all_pairs_push Below (listeners_in l.rows) added (pairs_from_rising _ kept.in_order.listeners.rising) (λ k d within. (let old = (given k d within).1 in omega (arith, old, next))));
        given =
            All-push (IsGiven (l.issued + 1)) (listeners_in l.rows) added (λ k d within. (let low = (given k d within).0 in let old = (given k d within).1 in (low, omega (arith, old))))
            (omega (arith, next), omega (arith, next));
        apart = all_pairs_push AreApart (listeners_in l.rows) added kept.in_order.listeners.apart (λ k d within owners names. other k d within owners names);
        few = omega (arith, length_push (listeners_in l.rows) added, length-map l.rows listener_of, room);
      }
    where
      other : (k : ℕ) (d : ListenerRow) → k < length (listeners_in l.rows) → (get_or (listeners_in l.rows) k d).owner ≡ added.owner → (get_or (listeners_in l.rows) k d).name ≡ added.name → ⊥
      other k d within owners names =
          let inside : k < length l.rows = subst (λ n. k < n) (length-map l.rows listener_of) within in
          let row = new_row d in
          let there : get_or (listeners_in l.rows) k d ≡ listener_of (get_or l.rows k row) = get_or-map listener_of l.rows k row d inside in
          let fails = none_passes (is_named added.owner added.name) l.rows unnamed k row inside in
          let passes =
          named_same added.owner added.name (get_or l.rows k row) (sym (ap (λ (x : ListenerRow). x.owner) there) ∙ owners) (sym (ap (λ (x : ListenerRow). x.name) there) ∙ names) in
          false≢true (sym fails ∙ passes)

  open_new : (turns : List (ℕ × Tag)) → open_place turns (new_row added) ≡ none
  open_new turns = by (is_in_turn turns (new_row added))
    where
      by : (t : Bool) → cond t none none ≡ none
      by true = refl
      by false = refl

  pub kept_push : IsKept (record { rows = l.rows ++ new_row added ∷ []; turns = l.turns; issued = l.issued + 1 }) numbers index'
  kept_push = record {
    in_order = record {
      listeners = subst (λ ls'. AreListeners ls' (l.issued + 1)) (sym added_last) pushed;
      waiting = All-push IsInPlace l.rows (new_row added) kept.in_order.waiting (record { rising = λ i j d before within. absurd (omega (arith, within)); fit = λ k d within. absurd (omega (arith, within)) });
      turns = kept.in_order.turns;
    };
    size = kept.size;
    firsts = record {
      at = λ i d within. at i d within (cases_lt i (length l.rows));
      past = λ i beyond. kept.firsts.past i (omega (arith, length_push l.rows (new_row added), beyond));
    };
    by_kind = by_kind_push index index' l.rows added listed kept.by_kind;
  }
    where
      at : (i : ℕ) (d : Row) → i < length (l.rows ++ new_row added ∷ []) → (i < length l.rows) ⊎ (length l.rows ≤ i) → number_at numbers i ≡ open_place l.turns (get_or (l.rows ++ new_row added ∷ []) i d)
      at i d within (inl inside) = kept.firsts.at i d inside ∙ ap (open_place l.turns) (sym (get_or_append_left l.rows (new_row added ∷ []) d i inside))
      at i d within (inr beyond) =
          let last : i ≡ length l.rows = omega (arith, beyond, within, length_push l.rows (new_row added)) in
          kept.firsts.past i beyond
          ∙ sym (open_new l.turns)
          ∙ ap (open_place l.turns) (sym (ap (λ n. get_or (l.rows ++ new_row added ∷ []) n d) last ∙ get_or_push l.rows (new_row added) d (length l.rows) refl))

-- ---- listeners are taken out

listeners_in-filter : (keeps : ListenerRow → Bool) (rows : List Row) → listeners_in (filter (λ row. keeps row.listener) rows) ≡ filter keeps (listeners_in rows)
listeners_in-filter keeps [] = refl
listeners_in-filter keeps (row ∷ rest) = by (keeps row.listener) (listeners_in-filter keeps rest)
  where
    by : (here : Bool) → listeners_in (filter (λ r. keeps r.listener) rest) ≡ filter keeps (listeners_in rest) → listeners_in (cond here (row ∷ filter (λ r. keeps r.listener) rest) (filter (λ r. keeps r.listener) rest)) ≡ cond here (row.listener ∷ filter keeps (listeners_in rest)) (filter keeps (listeners_in rest))
    by true more = ap (λ ls. row.listener ∷ ls) more
    by false more = more

pub length-filter_le : {X : Type 0} (p : X → Bool) (xs : List X) → length (filter p xs) ≤ length xs
length-filter_le p [] = omega arith
length-filter_le p (x ∷ xs) = by (p x) (length-filter_le p xs)
  where
    by : (here : Bool) → length (filter p xs) ≤ length xs → length (cond here (x ∷ filter p xs) (filter p xs)) ≤ suc (length xs)
    by true less = omega (arith, less)
    by false less = omega (arith, less)

listeners-filter : (keeps : ListenerRow → Bool) (ls : List ListenerRow) (issued : ℕ) → AreListeners ls issued → AreListeners (filter keeps ls) issued
listeners-filter keeps ls issued are = record {
  rising = rising_from_pairs _ (AllPairs-filter Below keeps ls (pairs_from_rising ls are.rising));
  given = All-filter keeps (IsGiven issued) ls are.given;
  apart = AllPairs-filter AreApart keeps ls are.apart;
  few = (let less = length-filter_le keeps ls in let few = are.few in omega (arith, less, few));
}

-- the order stays where only some listeners are kept; and there are no more of them
pub order_filter : (keeps : ListenerRow → Bool) (l : Listening) → AreInOrder l → AreInOrder (record { rows = filter (λ row. keeps row.listener) l.rows; turns = l.turns; issued = l.issued })
order_filter keeps l order = record {
  listeners = subst (λ ls. AreListeners ls l.issued) (sym (listeners_in-filter keeps l.rows)) (listeners-filter keeps (listeners_in l.rows) l.issued order.listeners);
  waiting = All-filter (λ (row : Row). keeps row.listener) IsInPlace l.rows order.waiting;
  turns = order.turns;
}

-- ---- room alone changes

listeners_in-bare : (rows : List Row) → listeners_in (map bare rows) ≡ listeners_in rows
listeners_in-bare [] = refl
listeners_in-bare (row ∷ rest) = ap (λ ls. row.listener ∷ ls) (listeners_in-bare rest)

pub same_listeners : (old new : List Row) → map bare new ≡ map bare old → listeners_in new ≡ listeners_in old
same_listeners old new same = sym (listeners_in-bare new) ∙ ap listeners_in same ∙ listeners_in-bare old

pub kept_bare : {index : KindIndex} (l : Listening) (rows : List Row) (numbers : List ℕ) → map bare rows ≡ map bare l.rows → IsKept l numbers index → IsKept (record { rows = rows; turns = l.turns; issued = l.issued }) numbers index
kept_bare l rows numbers same kept = record {
  in_order = record {
    listeners = subst (λ ls. AreListeners ls l.issued) (sym (same_listeners l.rows rows same)) kept.in_order.listeners;
    waiting = λ k d within. subst IsInPlace (at k d within) (kept.in_order.waiting k d (inside k within));
    turns = kept.in_order.turns;
  };
  size = kept.size;
  firsts = record {
    at = λ k d within. kept.firsts.at k d (inside k within) ∙ ap (open_place l.turns) (at k d within);
    past = λ k beyond. kept.firsts.past k (subst (λ n. n ≤ k) long beyond);
  };
  by_kind = by_kind_same l.rows rows (same_listeners l.rows rows same) kept.by_kind;
}
  where
    long : length rows ≡ length l.rows
    long = sym (length-map rows bare) ∙ ap length same ∙ length-map l.rows bare

    inside : (k : ℕ) → k < length rows → k < length l.rows
    inside k within = subst (λ n. k < n) long within

    at : (k : ℕ) (d : Row) → k < length rows → bare (get_or l.rows k d) ≡ bare (get_or rows k d)
    at k d within = sym (get_or-map bare l.rows k d d (inside k within)) ∙ ap (λ rs. get_or rs k d) (sym same) ∙ get_or-map bare rows k d d within
