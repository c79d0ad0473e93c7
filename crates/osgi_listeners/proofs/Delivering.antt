-- What listeners see of an entry, put behind what waits for them one after another.
use Rattle.std.proofs.Common.{◌≡◌, inl, inr, ◌+◌, ◌-◌, ◌*◌, ◌<◌, ◌≤◌, ℕ, suc, List, [], ◌∷◌, ◌++◌, append-nil, append_assoc, length, map, drop, take, get_or, refl, sym, ap, ◌∙◌, subst, arith, add-one}
use Rattle.std.specs.Prelude.{◌==◌, Bool, true, false, cond, Option, None, Some, All, AllPairs, IfSome}
use Rattle.std.proofs.lemmas.Bool.{eq-eqb, eqb-true}
use Rattle.std.proofs.lemmas.List.{length-append, map-append}
use Rattle.std.proofs.lemmas.List.Elements.{All-append}
use Rattle.osgi_base.specs.declared.ids.ListenerId.{ListenerId}
use Rattle.osgi_listeners.specs.Rows.{Accepts, change, id_of, is_listener, Row, row_at, told}
use Rattle.osgi_listeners.specs.Sights.{HasRoomFor, IsOfEarlier, place_in, sight_of, sights_by, sights_of, told_all, waiting_at}
use Rattle.osgi_listeners.specs.declared.row.Waiting.{Waiting}
use Rattle.osgi_listeners.specs.declared.sight.Sight as declared
use Rattle.osgi_listeners.specs.declared.sight.TheConstants.{ENTRY_PLACES}
use Rattle.osgi_listeners.specs.laws.Items.{all-in, before-middle, eq-turn, filter-push, in-all, map-twice, split-at, take-more}
use Rattle.osgi_ops.specs.Listening.{ComesBefore, is_sight_of}
use Rattle.osgi_ops.specs.Moments.{Sight}
use Rattle.osgi_ops.specs.laws.Items.{found-in, In-filter, In-map}
use Rattle.osgi_world.specs.Lists.{In}

-- ---- none, and one more

none_row : (entry : ℕ) (row : Row) → told_all entry [] row ≡ row
none_row entry row = let same : row.room - 0 ≡ row.room = omega arith in λ i. record { listener = row.listener; waiting = append-nil row.waiting i; room = same i }

map_same : (f : Row → Row) → ((row : Row) → f row ≡ row) → (rows : List Row) → map f rows ≡ rows
map_same f same [] = refl
map_same f same (row ∷ rest) = λ i. same row i ∷ map_same f same rest i

pub told_none : (entry : ℕ) (rows : List Row) → map (told_all entry []) rows ≡ rows
told_none entry rows = map_same (told_all entry []) (none_row entry) rows

module _ (entry : ℕ) (front : List Sight) (s : Sight) where
  more_row : (row : Row) (k : Bool) → (s.listener.0 == id_of row) ≡ k → told_all entry (front ++ s ∷ []) row ≡ cond k (told (waiting_at entry s) (told_all entry front row)) (told_all entry front row)
  more_row row k is =
      ap (λ (mine : List Sight). record { listener = row.listener; waiting = row.waiting ++ map (waiting_at entry) mine; room = row.room - length mine }) (filter-push (is_sight_of row.listener.listener) front s k is)
      ∙ by k
    where
      by : (t : Bool) → record { listener = row.listener; waiting = row.waiting ++ map (waiting_at entry) (sights_by row.listener.listener front ++ cond t (s ∷ []) []); room = row.room - length (sights_by row.listener.listener front ++ cond t (s ∷ []) []) }
          ≡ cond t (told (waiting_at entry s) (told_all entry front row)) (told_all entry front row)
      by true =
          let waits : row.waiting ++ map (waiting_at entry) (sights_by row.listener.listener front ++ s ∷ []) ≡ (row.waiting ++ map (waiting_at entry) (sights_by row.listener.listener front)) ++ waiting_at entry s ∷ [] =
          ap (λ ws. row.waiting ++ ws) (map-append (waiting_at entry) (sights_by row.listener.listener front) (s ∷ [])) ∙ sym (append_assoc row.waiting (map (waiting_at entry) (sights_by row.listener.listener front)) (waiting_at entry s ∷ [])) in
          let count = length-append (sights_by row.listener.listener front) (s ∷ []) in
          let room : row.room - length (sights_by row.listener.listener front ++ s ∷ []) ≡ (row.room - length (sights_by row.listener.listener front)) - 1 = omega (arith, count) in
          λ i. record { listener = row.listener; waiting = waits i; room = room i }
      by false = ap (λ (l : List Sight). record { listener = row.listener; waiting = row.waiting ++ map (waiting_at entry) l; room = row.room - length l }) (append-nil (sights_by row.listener.listener front))

  -- one sight more is told to its listener
  pub told_more : (rows : List Row) → map (told_all entry (front ++ s ∷ [])) rows ≡ change s.listener (told (waiting_at entry s)) (map (told_all entry front) rows)
  told_more rows =
      sym (map-twice (told_all entry front) (λ row. cond (is_listener s.listener row) (told (waiting_at entry s) row) row) (told_all entry (front ++ s ∷ []))
      (λ row. sym (more_row row (id_of row == s.listener.0) (eq-turn s.listener.0 (id_of row)))) rows)

-- ---- the listener of the next accepts it

module _ (entry : ℕ) (front rest : List Sight) (s : Sight) (rows : List Row) (room : HasRoomFor (front ++ s ∷ rest) rows) (earlier : All (IsOfEarlier entry) rows) (in_order : AllPairs ComesBefore (front ++ s ∷ rest)) where
  count_middle : (listener : ListenerId) → (s.listener.0 == listener.0) ≡ true → length (sights_by listener front) < length (sights_by listener (front ++ s ∷ rest))
  count_middle listener is = go front
    where
      go : (xs : List Sight) → length (sights_by listener xs) < length (sights_by listener (xs ++ s ∷ rest))
      go [] = subst (λ t. 0 < length (cond t (s ∷ sights_by listener rest) (sights_by listener rest))) (sym is) (omega arith)
      go (x ∷ xs) = by (is_sight_of listener x) (go xs)
        where
          by : (k : Bool) → length (sights_by listener xs) < length (sights_by listener (xs ++ s ∷ rest)) →
              length (cond k (x ∷ sights_by listener xs) (sights_by listener xs)) < length (cond k (x ∷ sights_by listener (xs ++ s ∷ rest)) (sights_by listener (xs ++ s ∷ rest)))
          by true less = omega (arith, less)
          by false less = less

  lower : (listener : ListenerId) → s.listener.0 ≡ listener.0 → (t : Sight) → ComesBefore t s → t.listener.0 ≡ listener.0 → place_in entry t.place < place_in entry s.place
  lower listener is t (inl less) mine = omega (arith, less)
  lower listener is t (inr r) mine = let less = r.1 in absurd (omega (arith, less, is, mine))

  row_accepts : (row : Row) → In row rows → id_of row ≡ s.listener.0 → Accepts (place_in entry s.place) (told_all entry front row)
  row_accepts row there is =
      let enough = in-all (λ (r : Row). length (sights_by r.listener.listener (front ++ s ∷ rest)) ≤ r.room) rows row room there in
      let fewer = count_middle row.listener.listener (eq-id is) in
      let old = in-all (IsOfEarlier entry) rows row earlier there in (
        omega (arith, enough, fewer),
        All-append (λ (w : Waiting). w.place < place_in entry s.place) row.waiting (map (waiting_at entry) (sights_by row.listener.listener front))
            (all-in (λ (w : Waiting). w.place < place_in entry s.place) row.waiting (λ w i. (let low = in-all (λ (v : Waiting). v.place < entry * ENTRY_PLACES) row.waiting w old i in omega (arith, low))))
            (all-in (λ (w : Waiting). w.place < place_in entry s.place) (map (waiting_at entry) (sights_by row.listener.listener front)) (λ w i.
            (let r = In-map (waiting_at entry) (sights_by row.listener.listener front) w i in
            let k = In-filter (is_sight_of row.listener.listener) front r.0 r.1 in
            subst (λ (v : Waiting). v.place < place_in entry s.place) (sym r.2)
            (lower row.listener.listener (sym is) r.0 (before-middle ComesBefore front s rest in_order r.0 k.0) (eqb-true r.0.listener.0 (id_of row) k.1))))),
      )
    where
      eq-id : id_of row ≡ s.listener.0 → (s.listener.0 == id_of row) ≡ true
      eq-id same = eq-eqb s.listener.0 (id_of row) (sym same)

  pub accepts_next : IfSome (row_at s.listener (map (told_all entry front) rows)) (Accepts (place_in entry s.place))
  accepts_next = go (row_at s.listener (map (told_all entry front) rows)) refl
    where
      go : (o : Option Row) → row_at s.listener (map (told_all entry front) rows) ≡ o → IfSome o (Accepts (place_in entry s.place))
      go None is = tt
      go (Some row) is =
          let f = found-in (is_listener s.listener) (map (told_all entry front) rows) row is in
          let r = In-map (told_all entry front) rows row f.0 in
          subst (Accepts (place_in entry s.place)) (sym r.2) (row_accepts r.0 r.1 (ap id_of (sym r.2) ∙ eqb-true (id_of row) s.listener.0 f.1))

-- ---- the loop over the sights

module _ (entry : ℕ) (sights : List declared.Sight) (i : ℕ) (d : declared.Sight) (within : i < length sights) (old now : List Row) (place : ℕ) (here : place ≡ (get_or sights i d).place) (told_so : now ≡ map (told_all entry (sights_of (take i sights))) old) where
  pub told_next : change (get_or sights i d).listener (told (record { place = place_in entry place; event = (get_or sights i d).event })) now ≡ map (told_all entry (sights_of (take (i + 1) sights))) old
  told_next =
      (λ j. change (get_or sights i d).listener (told (record { place = place_in entry (here j); event = (get_or sights i d).event })) (told_so j))
      ∙ sym (told_more entry (sights_of (take i sights)) (sight_of (get_or sights i d)) old)
      ∙ ap (λ (l : List Sight). map (told_all entry l) old)
      (sym (ap (λ n. sights_of (take n sights)) (add-one i) ∙ ap sights_of (take-more sights i d within) ∙ map-append sight_of (take i sights) (get_or sights i d ∷ [])))

  pub next_accepts : HasRoomFor (sights_of sights) old → All (IsOfEarlier entry) old → AllPairs ComesBefore (sights_of sights) → IfSome (row_at (get_or sights i d).listener now) (Accepts (place_in entry place))
  next_accepts room earlier in_order =
      let parts : sights_of sights ≡ sights_of (take i sights) ++ sight_of (get_or sights i d) ∷ sights_of (drop (suc i) sights) =
      ap sights_of (split-at sights i d within) ∙ map-append sight_of (take i sights) (get_or sights i d ∷ drop (suc i) sights) in
      subst (λ (rows : List Row). IfSome (row_at (get_or sights i d).listener rows) (Accepts (place_in entry place))) (sym told_so)
      (subst (λ n. IfSome (row_at (get_or sights i d).listener (map (told_all entry (sights_of (take i sights))) old)) (Accepts (place_in entry n))) (sym here)
      (accepts_next entry (sights_of (take i sights)) (sights_of (drop (suc i) sights)) (sight_of (get_or sights i d)) old
      (subst (λ (l : List Sight). HasRoomFor l old) parts room) earlier (subst (λ (l : List Sight). AllPairs ComesBefore l) parts in_order)))
