-- The loop of a post: what is answered for each listener is put behind what waits for it.
use Rattle.std.proofs.Common.{◌≡◌, ◌≢◌, ◌⊎◌, inl, inr, ◌+◌, ◌<◌, ◌≤◌, ℕ, List, length, get_or, ap, sym, subst, refl, ◌∙◌, arith}
use Rattle.std.specs.Prelude.{Option, None, Some, All, IfSome, slice_get, unwrap_or}
use Rattle.std.proofs.lemmas.Bool.{cases_eq}
use Rattle.std.proofs.lemmas.List.{get_or-map, get_or_default, length-map}
use Rattle.osgi_base.specs.declared.ids.ListenerId.{ListenerId}
use Rattle.osgi_listeners.specs.Rows.{ArePosted, AreRoomier, AreRoomierRows, bare, change, HasRoom, IsLater, IsPosted, listener_of, listeners_in, Listening, Row, row_at, told, told_if}
use Rattle.osgi_listeners.specs.computed.Kept.{IsPlaceOf}
use Rattle.osgi_listeners.proofs.Changes.{changed_elsewhere, get_or-change, get_or-change_at, listeners_in-change, row_found}
use Rattle.osgi_listeners.specs.laws.Ids.{apart, Rise}
use Rattle.osgi_listeners.specs.laws.Room.{room_kept}
use Rattle.osgi_listeners.proofs.Orders.{any_of}
use Rattle.osgi_listeners.specs.declared.row.ListenerRow.{ListenerRow}
use Rattle.std.proofs.lemmas.Option.{unwrap_or-slice_get}
use Rattle.osgi_ops.specs.declared.event.Event.{Event}

-- the rows below `at` have what was answered for them, the others are as they were
pub record IsPostedTo (place : ℕ) (Sees : ListenerId → Option Event → Type 0) (before now : Listening) (at : ℕ) : Type 0 where
  pub same : listeners_in now.rows ≡ listeners_in before.rows
  pub done : (i : ℕ) (d : Row) → i < at → i < length before.rows → (answer : Option Event) × Sees (get_or before.rows i d).listener.listener answer × (get_or now.rows i d ≡ told_if place answer (get_or before.rows i d))
  pub rest : (i : ℕ) (d : Row) → at ≤ i → i < length before.rows → get_or now.rows i d ≡ get_or before.rows i d
  pub turns : now.turns ≡ before.turns
  pub issued : now.issued ≡ before.issued

pub long : (before now : List Row) → listeners_in now ≡ listeners_in before → length now ≡ length before
long before now same = sym (length-map now listener_of) ∙ ap length same ∙ length-map before listener_of

module _ (place : ℕ) (Sees : ListenerId → Option Event → Type 0) (before now : Listening) (at : ℕ) (within : at < length now.rows) (listener : ListenerId) (is : (d : Row) → (get_or now.rows at d).listener.listener ≡ listener) (posted : IsPostedTo place Sees before now at) where
  there : IsPlaceOf listener now.rows at
  there = record { within = within; is = λ d. ap (λ (l : ListenerId). l.0) (is d) }

  inside_before : at < length before.rows
  inside_before = subst (λ n. at < n) (long before.rows now.rows posted.same) within

  was : (d : Row) → (get_or before.rows at d).listener.listener ≡ listener
  was d = ap (λ (r : Row). r.listener.listener) (sym (posted.rest at d (omega arith) inside_before)) ∙ is d

  -- nothing is answered
  unposted : Sees listener None → IsPostedTo place Sees before now (at + 1)
  unposted seen = record {
    same = posted.same;
    done = λ i d below inside. done i d below inside (cases_eq i at);
    rest = λ i d above inside. posted.rest i d (omega arith) inside;
    turns = posted.turns;
    issued = posted.issued;
  }
    where
      done : (i : ℕ) (d : Row) → i < at + 1 → i < length before.rows → (i ≡ at) ⊎ (i ≢ at) → (answer : Option Event) × Sees (get_or before.rows i d).listener.listener answer × (get_or now.rows i d ≡ told_if place answer (get_or before.rows i d))
      done i d below inside (inl same) = (None, subst (λ n. Sees (get_or before.rows n d).listener.listener None) (sym same) (subst (λ l. Sees l None) (sym (was d)) seen), posted.rest i d (omega (arith, same)) inside)
      done i d below inside (inr differ) = posted.done i d (omega (arith, below, differ)) inside

  pub posted_nothing : (after : Listening) → Sees listener None → after ≡ now → IsPostedTo place Sees before after (at + 1)
  posted_nothing after seen same = subst (λ l. IsPostedTo place Sees before l (at + 1)) (sym same) (unposted seen)

  -- an event is answered
  pub posted_more : (event : Event) (after : Listening) → Rise now.rows → Sees listener (Some event) → after.rows ≡ change listener (told (record { place = place; event = event })) now.rows → after.turns ≡ now.turns → after.issued ≡ now.issued →
      IsPostedTo place Sees before after (at + 1)
  posted_more event after rise seen rows turns issued = record {
    same = ap listeners_in rows ∙ listeners_in-change listener (told (record { place = place; event = event })) (λ r. refl) now.rows ∙ posted.same;
    done = λ i d below inside. done i d below inside (cases_eq i at);
    rest = λ i d above inside. elsewhere i d inside (λ e. omega arith) ∙ posted.rest i d (omega arith) inside;
    turns = turns ∙ posted.turns;
    issued = issued ∙ posted.issued;
  }
    where
      f : Row → Row
      f = told (record { place = place; event = event })

      elsewhere : (i : ℕ) (d : Row) → i < length before.rows → i ≢ at → get_or after.rows i d ≡ get_or now.rows i d
      elsewhere i d inside differ =
          let within_now : i < length now.rows = subst (λ n. i < n) (sym (long before.rows now.rows posted.same)) inside in
          ap (λ rs. get_or rs i d) rows
          ∙ get_or-change listener f now.rows i d within_now
          ∙ changed_elsewhere listener f (get_or now.rows i d) (λ e. apart now.rows rise i at d within_now within differ (e ∙ sym (there.is d)))

      done : (i : ℕ) (d : Row) → i < at + 1 → i < length before.rows → (i ≡ at) ⊎ (i ≢ at) → (answer : Option Event) × Sees (get_or before.rows i d).listener.listener answer × (get_or after.rows i d ≡ told_if place answer (get_or before.rows i d))
      done i d below inside (inl same) = (
        Some event,
        subst (λ n. Sees (get_or before.rows n d).listener.listener (Some event)) (sym same) (subst (λ l. Sees l (Some event)) (sym (was d)) seen),
        ap (λ rs. get_or rs i d) rows
            ∙ ap (λ n. get_or (change listener f now.rows) n d) same
            ∙ get_or-change_at listener f now.rows at d there
            ∙ ap f (posted.rest at d (omega arith) inside_before)
            ∙ ap (λ n. f (get_or before.rows n d)) (sym same),
      )
      done i d below inside (inr differ) =
          let old = posted.done i d (omega (arith, below, differ)) inside in
          (old.0, old.1, elsewhere i d inside differ ∙ old.2)

  -- what the row of the listener said before, it says still
  pub said_still : (P : Row → Type 0) → Rise now.rows → All P before.rows → IfSome (row_at listener now.rows) P
  said_still P rise all =
      let d = any_of before.rows at inside_before in
      let row = get_or now.rows at d in
      let found : row_at listener now.rows ≡ Some row = row_found now.rows rise listener at row there (get_or_default now.rows at d row within) in
      subst (λ (o : Option Row). IfSome o P) (sym found) (subst P (sym (posted.rest at d (omega arith) inside_before)) (all at d inside_before))

-- the listener that is read at a place
pub listener_there : (rows : List Row) (at : ℕ) (l : ListenerRow) → at < length rows → slice_get (listeners_in rows) at ≡ Some l → (d : Row) → (get_or rows at d).listener ≡ l
listener_there rows at l within read d =
    sym (get_or-map listener_of rows at d l within) ∙ sym (unwrap_or-slice_get (listeners_in rows) at l) ∙ ap (λ o. unwrap_or o l) read

-- ---- at the end

bare_told : (place : ℕ) (answer : Option Event) (row : Row) → bare (told_if place answer row) ≡ bare (told_if place answer (bare row))
bare_told place None row = refl
bare_told place (Some event) row = refl

room_told : (place : ℕ) (answer : Option Event) (row : Row) → row.room ≤ (told_if place answer row).room + 1
room_told place None row = omega arith
room_told place (Some event) row = omega arith

module _ (place : ℕ) (Sees : ListenerId → Option Event → Type 0) (old before now : Listening) (at : ℕ) (roomier : AreRoomier old before) (all : length before.rows ≤ at) (posted : IsPostedTo place Sees before now at) where
  pub posted_all : ArePosted place Sees old.rows now.rows
  posted_all = record { count = long before.rows now.rows posted.same ∙ roomier.rows.count; each = each }
    where
      each : (i : ℕ) (d : Row) → i < length old.rows → IsPosted place Sees (get_or old.rows i d) (get_or now.rows i d)
      each i d within =
          let inside : i < length before.rows = subst (λ n. i < n) (sym roomier.rows.count) within in
          let done = posted.done i d (omega (arith, inside, all)) inside in
          let same : bare (get_or before.rows i d) ≡ bare (get_or old.rows i d) = (roomier.rows.each i d within).same in
          record {
            answer = done.0;
            seen = subst (λ (r : Row). Sees r.listener.listener done.0) same done.1;
            is = ap bare done.2 ∙ bare_told place done.0 (get_or before.rows i d) ∙ ap (λ r. bare (told_if place done.0 r)) same ∙ sym (bare_told place done.0 (get_or old.rows i d));
          }

  pub room_all : (events : ℕ) → HasRoom (events + 1) old.rows → HasRoom events now.rows
  room_all events has i d within =
      let inside : i < length before.rows = subst (λ n. i < n) (long before.rows now.rows posted.same) within in
      let done = posted.done i d (omega (arith, inside, all)) inside in
      let was = room_kept old.rows before.rows roomier.rows (events + 1) has i d inside in
      let less = room_told place done.0 (get_or before.rows i d) in
      let is = ap (λ (r : Row). r.room) done.2 in
      omega (arith, was, less, is)

-- what waits is as before, where only room was made
pub later_still : (place : ℕ) (old new : List Row) → AreRoomierRows old new → All (IsLater place) old → All (IsLater place) new
later_still place old new roomier later i d within =
    let inside : i < length old = subst (λ n. i < n) roomier.count within in
    subst (IsLater place) (sym (roomier.each i d inside).same) (later i d inside)
