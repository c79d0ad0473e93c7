-- Loops over the slots: the places of the first events that are written one after another, and the room that is made.
use Rattle.std.proofs.Common.{◌≡◌, ◌≢◌, ◌⊎◌, inl, inr, ◌+◌, ◌<◌, ◌≤◌, ℕ, List, length, set, get_or, ap, sym, subst, ◌∙◌, arith, get_or-set_other, get_or-set_same}
use Rattle.std.proofs.lemmas.Bool.{cases_eq}
use Rattle.std.proofs.lemmas.List.{length-set, get_or_default}
use Rattle.osgi_base.specs.declared.ids.Tag.{Tag}
use Rattle.osgi_listeners.specs.Rows.{AreRoomierRows, bare, IsRoomier, Row}
use Rattle.osgi_listeners.specs.computed.Kept.{open_place}
use Rattle.osgi_listeners.specs.computed.Tournaments.{none, number_at}

-- ---- the places of the first events

-- below `at` they are written; from `before` on there is no number
pub record IsFilled (numbers : List ℕ) (turns : List (ℕ × Tag)) (rows : List Row) (before at : ℕ) : Type 0 where
  pub size : length numbers ≡ 4096
  pub written : (i : ℕ) (d : Row) → i < at → i < length rows → number_at numbers i ≡ open_place turns (get_or rows i d)
  pub cleared : (i : ℕ) → i < at → length rows ≤ i → number_at numbers i ≡ none
  pub past : (i : ℕ) → before ≤ i → number_at numbers i ≡ none

pub filled_more : (numbers : List ℕ) (turns : List (ℕ × Tag)) (rows : List Row) (before at number : ℕ) → at < before → before ≤ 4096 → ((d : Row) → at < length rows → number ≡ open_place turns (get_or rows at d)) → (length rows ≤ at → number ≡ none) →
    IsFilled numbers turns rows before at → IsFilled (set numbers at number) turns rows before (at + 1)
filled_more numbers turns rows before at number low few within outside filled = record {
  size = length-set numbers at number ∙ filled.size;
  written = λ i d below inside. written i d below inside (cases_eq i at);
  cleared = λ i below beyond. cleared i below beyond (cases_eq i at);
  past = λ i beyond. get_or-set_other numbers at i number none (λ e. omega arith) ∙ filled.past i beyond;
}
  where
    there : (i : ℕ) → i ≡ at → number_at (set numbers at number) i ≡ number
    there i same = let size = filled.size in ap (number_at (set numbers at number)) same ∙ get_or-set_same numbers at number none (omega arith)

    written : (i : ℕ) (d : Row) → i < at + 1 → i < length rows → (i ≡ at) ⊎ (i ≢ at) → number_at (set numbers at number) i ≡ open_place turns (get_or rows i d)
    written i d below inside (inl same) = there i same ∙ within d (omega (arith, inside, same)) ∙ ap (λ n. open_place turns (get_or rows n d)) (sym same)
    written i d below inside (inr differ) = get_or-set_other numbers at i number none differ ∙ filled.written i d (omega (arith, below, differ)) inside

    cleared : (i : ℕ) → i < at + 1 → length rows ≤ i → (i ≡ at) ⊎ (i ≢ at) → number_at (set numbers at number) i ≡ none
    cleared i below beyond (inl same) = there i same ∙ outside (omega (arith, beyond, same))
    cleared i below beyond (inr differ) = get_or-set_other numbers at i number none differ ∙ filled.cleared i (omega (arith, below, differ)) beyond

-- ---- room

-- a row that has more room is put in its place
pub roomier_there : (rows : List Row) (at : ℕ) (d row : Row) → at < length rows → IsRoomier (get_or rows at d) row → AreRoomierRows rows (set rows at row)
roomier_there rows at d row within more = record { count = length-set rows at row; each = λ i e inside. each i e (cases_eq i at) }
  where
    each : (i : ℕ) (e : Row) → (i ≡ at) ⊎ (i ≢ at) → IsRoomier (get_or rows i e) (get_or (set rows at row) i e)
    each i e (inl same) =
        let was : get_or rows i e ≡ get_or rows at d = ap (λ n. get_or rows n e) same ∙ get_or_default rows at e d within in
        let here : get_or (set rows at row) i e ≡ row = ap (λ n. get_or (set rows at row) n e) same ∙ get_or-set_same rows at row e within in
        subst (λ (p : Row × Row). IsRoomier p.0 p.1) (λ j. (sym was j, sym here j)) more
    each i e (inr differ) =
        let here : get_or (set rows at row) i e ≡ get_or rows i e = get_or-set_other rows at i row e differ in
        let room = ap (λ (r : Row). r.room) here in
        record { same = ap bare here; room = omega (arith, room) }

pub roomier_then : (before now after : List Row) → AreRoomierRows before now → AreRoomierRows now after → AreRoomierRows before after
roomier_then before now after first next = record {
  count = next.count ∙ first.count;
  each = λ i d within.
      let inside : i < length now = subst (λ n. i < n) (sym first.count) within in
      let low = (first.each i d within).room in
      let high = (next.each i d inside).room in
      record { same = (next.each i d inside).same ∙ (first.each i d within).same; room = omega (arith, low, high) };
}

-- each row below `at` has room for so many events more, and the other rows are as before
pub record IsReserved (events : ℕ) (before now : List Row) (at : ℕ) : Type 0 where
  pub roomier : AreRoomierRows before now
  pub room : (i : ℕ) (d : Row) → i < at → i < length before → events ≤ (get_or now i d).room
  pub rest : (i : ℕ) (d : Row) → at ≤ i → get_or now i d ≡ get_or before i d

pub reserved_more : (events : ℕ) (before now : List Row) (at : ℕ) (row : Row) → at < length now → AreRoomierRows now (set now at row) → events ≤ row.room → IsReserved events before now at → IsReserved events before (set now at row) (at + 1)
reserved_more events before now at row within more enough reserved = record {
  roomier = roomier_then before now (set now at row) reserved.roomier more;
  room = λ i d below inside. room i d below inside (cases_eq i at);
  rest = λ i d above. get_or-set_other now at i row d (λ e. omega arith) ∙ reserved.rest i d (omega arith);
}
  where
    room : (i : ℕ) (d : Row) → i < at + 1 → i < length before → (i ≡ at) ⊎ (i ≢ at) → events ≤ (get_or (set now at row) i d).room
    room i d below inside (inl same) =
        let here = ap (λ (r : Row). r.room) (ap (λ n. get_or (set now at row) n d) same ∙ get_or-set_same now at row d within) in
        omega (arith, here, enough)
    room i d below inside (inr differ) =
        let old = reserved.room i d (omega (arith, below, differ)) inside in
        let here = ap (λ (r : Row). r.room) (get_or-set_other now at i row d differ) in
        omega (arith, old, here)
