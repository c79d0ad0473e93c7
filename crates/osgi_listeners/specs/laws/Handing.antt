-- What ties the answers of the listeners to the history that they stand for.
--
--   next, hand   is-same-earliest   the earliest event of the rows is the earliest of the history
--                answers-handed     so Handed is the answer, with what the row says of the listener
--                answers-next       the same by what `next` and `row` answer; row-handed: that `row` answers
--                handed_once        what `next` names is what `hand` then hands
--                answers_once       a hand has one answer
--   ready        is-nothing-ready   where no row is open, nothing may be handed
--   deliver_all  waits-of-earlier   its condition on what waits
use Rattle.osgi_listeners.specs.declared.row.ListenerRow.{ListenerRow}
use Rattle.std.proofs.Common.{◌≡◌, ◌*◌, ◌≢◌, ◌⊎◌, inl, inr, ℕ, suc, ◌<◌, ◌≤◌, nat_lt, List, [], ◌∷◌, ◌++◌, length, map, drop, take, Bool, true, false, refl, sym, ap, ◌∙◌, subst, arith}
use Rattle.std.specs.Prelude.{◌&&◌, ◌||◌, not, cond, is_some, All, find, slice_get, Some, Contains, false}
use Rattle.std.specs.List.{list_any}
use Rattle.std.specs.Option.{option_map}
use Rattle.std.proofs.lemmas.Bool.{cases_eq, cases_lt, eq-eqb, eqb-true, lt-ltb}
use Rattle.std.proofs.lemmas.List.{length-map, map-append, take-append-drop}
use Rattle.osgi_base.specs.declared.ids.ListenerId.{ListenerId}
use Rattle.osgi_listeners.specs.Rows.{bare, ComesFirst, id_of, is_in_turn as is_busy_row, is_open, Listening, Row, tag_of, AreInOrder, IsHanded, IsEarliest as IsEarliestOfRows, is_listener as is_row_of, listener_of, row_at}
use Rattle.osgi_listeners.specs.declared.answer.HandAnswer.TheVariants.{Handed}
use Rattle.osgi_listeners.specs.declared.row.Waiting.{Waiting}
use Rattle.osgi_listeners.specs.declared.sight.TheConstants.{ENTRY_PLACES}
use Rattle.osgi_ops.specs.Brackets.{brackets}
use Rattle.osgi_ops.specs.Listening.{Added, event_at, handed_in, is_in_turn, is_listener, is_seen_by, IsEarlier, IsEarliest, IsNext, IsReady, listeners, Spot, spot_of}
use Rattle.osgi_ops.specs.Moments.{Moment, Seen}
use Rattle.osgi_ops.specs.rows.Events.{IsHanding}
use Rattle.osgi_ops.specs.declared.entry.Entry.{Entry}
use Rattle.osgi_ops.specs.declared.event.Event.{Event}
use Rattle.osgi_world.specs.Lists.{In}
use Rattle.osgi_ops.specs.laws.Items.{contains-In, find-some, found-in, In-contains, In-filter, In-map, In-mapped}
use Rattle.osgi_listeners.specs.Stands.{AreHandedFirst, event_in, is_turn, place_of, row_of, seen_by, StandsFor, tag_in, waiting_for, waiting_of, listener_row, AreSmall}
use Rattle.osgi_ops.specs.Bundles.{row_of as depot_row}
use Rattle.osgi_listeners.specs.laws.Items.{all-in, in-all, in-drop}
use Rattle.osgi_listeners.specs.laws.Ids.{ids_rise, same_row}
use Rattle.osgi_listeners.specs.Sights.{IsOfEarlier}
use Rattle.osgi_ops.specs.declared.reply.Reply.TheVariants as answer

-- ---- lists

found-any : {X Y : Type 0} (f : X → Y) (p : X → Bool) (xs : List X) → is_some (option_map f (find p xs)) ≡ list_any p xs
found-any f p [] = refl
found-any {X} f p (x ∷ xs) = go (p x) (found-any f p xs)
  where
    go : (k : Bool) → is_some (option_map f (find p xs)) ≡ list_any p xs → is_some (option_map f (cond k (Some x) (find p xs))) ≡ (k || list_any p xs)
    go true ih = refl
    go false ih = ih

-- ---- rows and listeners

-- the listener of a row is in a turn where the history says so
pub turns-agree : (sights : List Seen) (history : List Entry) (l : Listening) → StandsFor sights history l → (listener : ListenerId) → is_some (tag_of listener.0 l.turns) ≡ is_in_turn listener history
turns-agree sights history l stands listener = ap is_some (stands.turns listener.0) ∙ found-any tag_in (is_turn listener) (brackets history)

-- each row is that of a live listener, and each live listener has a row
pub row-added : (sights : List Seen) (history : List Entry) (l : Listening) → StandsFor sights history l → (row : Row) → In row l.rows → (a : Added) × In a (listeners history) × (bare row ≡ row_of sights history a)
row-added sights history l stands row i = In-map (row_of sights history) (listeners history) (bare row) (subst (In (bare row)) stands.rows (In-mapped bare l.rows row i))

pub added-row : (sights : List Seen) (history : List Entry) (l : Listening) → StandsFor sights history l → (a : Added) → In a (listeners history) → (row : Row) × In row l.rows × (row_of sights history a ≡ bare row)
added-row sights history l stands a i = In-map bare l.rows (row_of sights history a) (subst (In (row_of sights history a)) (sym stands.rows) (In-mapped (row_of sights history) (listeners history) a i))

-- ---- what waits, and what is next

of-sights : (sights : List Seen) (history : List Entry) (listener : ListenerId) (s : Seen) → In s (drop (length (handed_in listener history)) (seen_by listener sights)) → In s sights
of-sights sights history listener s i = (In-filter (is_seen_by listener) sights s (in-drop (length (handed_in listener history)) (seen_by listener sights) s i)).0

split-spots : (xs : List Seen) (past : List Spot) (next : Spot) (rest : List Spot) → map spot_of xs ≡ past ++ next ∷ rest → (s : Seen) × (more : List Seen) × (drop (length past) xs ≡ s ∷ more) × (spot_of s ≡ next)
split-spots [] [] next rest e = absurd (cc e)
split-spots (x ∷ xs) [] next rest e = (x, xs, refl, cc e)
split-spots [] (p ∷ past) next rest e = absurd (cc e)
split-spots (x ∷ xs) (p ∷ past) next rest e = split-spots xs past next rest (cc e)

-- the next event is the first that waits
pub next-waits : (sights : List Seen) (history : List Entry) (listener : ListenerId) (spot : Spot) → IsNext sights history listener spot →
    (s : Seen) × (more : List Seen) × (drop (length (handed_in listener history)) (seen_by listener sights) ≡ s ∷ more) × (spot_of s ≡ spot)
next-waits sights history listener spot n =
    let r = split-spots (seen_by listener sights) n.past spot n.rest n.due in
    let count : length n.past ≡ length (handed_in listener history) = sym (length-map n.past event_at) ∙ ap (λ (l : List Event). length l) n.handed in
    (r.0, r.1, ap (λ k. drop k (seen_by listener sights)) (sym count) ∙ r.2, r.3)

taken-handed : (xs : List Seen) (g rest : List Event) → map event_in xs ≡ g ++ rest → map event_at (map spot_of (take (length g) xs)) ≡ g
taken-handed xs [] rest e = refl
taken-handed [] (h ∷ g) rest e = absurd (cc e)
taken-handed (x ∷ xs) (h ∷ g) rest e = let same : x.event ≡ h = cc e in λ i. same i ∷ taken-handed xs g rest (cc e) i

pub waits-next : (sights : List Seen) (history : List Entry) → AreHandedFirst sights history → (listener : ListenerId) (s : Seen) (more : List Seen) →
    drop (length (handed_in listener history)) (seen_by listener sights) ≡ s ∷ more → IsNext sights history listener (spot_of s)
waits-next sights history first listener s more e =
    let n : ℕ = length (handed_in listener history) in
    let xs : List Seen = seen_by listener sights in
    let r = first listener in
    record {
      past = map spot_of (take n xs);
      rest = map spot_of more;
      due = ap (map spot_of) (sym (take-append-drop n xs)) ∙ map-append spot_of (take n xs) (drop n xs) ∙ ap (λ l. map spot_of (take n xs) ++ map spot_of l) e;
      handed = taken-handed xs (handed_in listener history) r.0 r.1;
    }

first-of : (xs : List Seen) (w : Waiting) → slice_get (map waiting_of xs) 0 ≡ Some w → (s : Seen) × (more : List Seen) × (xs ≡ s ∷ more) × (waiting_of s ≡ w)
first-of [] w e = absurd (cc e)
first-of (x ∷ xs) w e = (x, xs, refl, cc e)

-- a listener that is ready has a row in no turn, with the event as its first
record IsWaitingAt (sights : List Seen) (l : Listening) (listener : ListenerId) (spot : Spot) : Type 0 where
  row : Row
  live : In row l.rows
  is : row.listener.listener.0 ≡ listener.0
  free : is_busy_row l.turns row ≡ false
  seen : Seen
  more : List Waiting
  first : row.waiting ≡ waiting_of seen ∷ more
  same : spot_of seen ≡ spot
  known : In seen sights

ready-row : (sights : List Seen) (history : List Entry) (l : Listening) → StandsFor sights history l → (listener : ListenerId) (spot : Spot) → IsReady sights history listener spot → IsWaitingAt sights l listener spot
ready-row sights history l stands listener spot ready =
    let f = found-in (is_listener listener) (listeners history) ready.added ready.live in
    let r = added-row sights history l stands ready.added f.0 in
    let id : ready.added.listener.0 ≡ listener.0 = eqb-true ready.added.listener.0 listener.0 f.1 in
    let same : ready.added.listener ≡ listener = (λ i. record { 0 = id i }) in
    let n = next-waits sights history listener spot ready.next in
    let row : r.0.listener.listener.0 ≡ listener.0 = sym (ap (λ (x : Row). x.listener.listener.0) r.2) ∙ id in
    record {
      row = r.0;
      live = r.1;
      is = row;
      free = ap (λ k. is_some (tag_of k l.turns)) row ∙ turns-agree sights history l stands listener ∙ ready.free;
      seen = n.0;
      more = map waiting_of n.1;
      first = sym (ap (λ (x : Row). x.waiting) r.2) ∙ ap (λ k. waiting_for k sights history) same ∙ ap (map waiting_of) n.2;
      same = n.3;
      known = of-sights sights history listener n.0 (subst (In n.0) (sym n.2) (inl refl));
    }

-- ---- places

-- a lower place is that of an earlier event
order : (s t : Seen) (i j : ℕ) → s.place < ENTRY_PLACES → t.place < ENTRY_PLACES → ComesFirst (place_of s) i (place_of t) j → IsEarlier (spot_of s) (spot_of t) ⊎ ((s.entry ≡ t.entry) × (s.place ≡ t.place) × (i ≤ j))
order s t i j a b c = by (cases_lt s.entry t.entry) (cases_eq s.entry t.entry) c
  where
    by : (s.entry < t.entry) ⊎ (t.entry ≤ s.entry) → (s.entry ≡ t.entry) ⊎ (s.entry ≢ t.entry) → ComesFirst (place_of s) i (place_of t) j → IsEarlier (spot_of s) (spot_of t) ⊎ ((s.entry ≡ t.entry) × (s.place ≡ t.place) × (i ≤ j))
    by (inl less) m d = inl (inl less)
    by (inr low) (inl same) (inl less) = inl (inr (same, omega (arith, same, less)))
    by (inr low) (inl same) (inr r) = let p = r.0 in inr (same, omega (arith, same, p), r.1)
    by (inr low) (inr apart) (inl less) = absurd (omega (arith, low, apart, less, a, b))
    by (inr low) (inr apart) (inr r) = let p = r.0 in absurd (omega (arith, low, apart, p, a, b))

-- ---- the laws

-- what waits is of earlier entries where all that was seen is: the condition of `deliver_all`
pub waits-of-earlier : (sights : List Seen) (history : List Entry) (l : Listening) (entry : ℕ) → All (λ (s : Seen). s.entry < entry) sights → AreSmall sights → StandsFor sights history l → All (IsOfEarlier entry) l.rows
waits-of-earlier sights history l entry past small stands = all-in (IsOfEarlier entry) l.rows (λ row i. one row (row-added sights history l stands row i))
  where
    below : (t : Seen) → In t sights → place_of t < entry * ENTRY_PLACES
    below t i =
        let a = in-all (λ (x : Seen). x.entry < entry) sights t past i in
        let b = in-all (λ (x : Seen). x.place < ENTRY_PLACES) sights t small i in
        omega (arith, a, b)

    waits : (listener : ListenerId) (w : Waiting) → In w (waiting_for listener sights history) → w.place < entry * ENTRY_PLACES
    waits listener w i =
        let r = In-map waiting_of (drop (length (handed_in listener history)) (seen_by listener sights)) w i in
        let low = below r.0 (of-sights sights history listener r.0 r.1) in
        let is : w.place ≡ place_of r.0 = ap (λ (x : Waiting). x.place) r.2 in
        omega (arith, low, is)

    one : (row : Row) → (a : Added) × In a (listeners history) × (bare row ≡ row_of sights history a) → IsOfEarlier entry row
    one row r =
        let is : row.waiting ≡ waiting_for r.0.listener sights history = ap (λ (x : Row). x.waiting) r.2 in
        subst (λ ws. All (λ (w : Waiting). w.place < entry * ENTRY_PLACES) ws) (sym is)
        (all-in (λ (w : Waiting). w.place < entry * ENTRY_PLACES) (waiting_for r.0.listener sights history) (waits r.0.listener))

pub is-nothing-ready :
    (sights : List Seen) (history : List Entry) (l : Listening) → StandsFor sights history l → All (λ row. is_open l.turns row ≡ false) l.rows →
    (listener : ListenerId) (spot : Spot) → ¬ IsReady sights history listener spot
is-nothing-ready sights history l stands none listener spot ready =
    let r = ready-row sights history l stands listener spot ready in
    let shut : is_open l.turns r.row ≡ false = in-all (λ row. is_open l.turns row ≡ false) l.rows r.row none r.live in
    let opened : is_open l.turns r.row ≡ true = (λ i. not (r.free i) && nat_lt 0 (length (r.first i))) ∙ lt-ltb 0 (suc (length r.more)) (omega arith) in
    let bad : true ≡ false = sym opened ∙ shut in
    cc bad

pub is-same-earliest :
    (sights : List Seen) (history : List Entry) (l : Listening) (row : Row) (next : Waiting) → AreSmall sights → AreHandedFirst sights history → StandsFor sights history l → IsEarliestOfRows l row next →
    (s : Seen) × (next ≡ waiting_of s) × IsEarliest sights history row.listener.listener (spot_of s)
is-same-earliest sights history l row next small first stands e = (w.0, sym w.3, subst (λ k. IsEarliest sights history k (spot_of w.0)) (sym ids) earliest)
  where
    added : (a : Added) × In a (listeners history) × (bare row ≡ row_of sights history a)
    added = row-added sights history l stands row (contains-In l.rows row e.live)

    a : Added
    a = added.0

    ids : row.listener.listener ≡ added.0.listener
    ids = ap (λ (x : Row). x.listener.listener) added.2

    w : (s : Seen) × (more : List Seen) × (drop (length (handed_in added.0.listener history)) (seen_by added.0.listener sights) ≡ s ∷ more) × (waiting_of s ≡ next)
    w = first-of (drop (length (handed_in added.0.listener history)) (seen_by added.0.listener sights)) next (ap (λ ws. slice_get ws 0) (sym (ap (λ (x : Row). x.waiting) added.2)) ∙ e.first)

    found : (b : Added) × (find (is_listener added.0.listener) (listeners history) ≡ Some b)
    found = find-some (is_listener added.0.listener) (listeners history) added.0 added.1 (eq-eqb added.0.listener.0 added.0.listener.0 refl)

    ready : IsReady sights history added.0.listener (spot_of w.0)
    ready = record {
      added = found.0;
      live = found.1;
      free = sym (turns-agree sights history l stands added.0.listener) ∙ ap (λ (k : ListenerId). is_some (tag_of k.0 l.turns)) (sym ids) ∙ e.free;
      next = waits-next sights history first added.0.listener w.0 w.1 w.2;
    }

    fits : (s : Seen) → In s sights → s.place < ENTRY_PLACES
    fits s i = in-all (λ (x : Seen). x.place < ENTRY_PLACES) sights s small i

    before : (other : ListenerId) (spot : Spot) → IsReady sights history other spot →
        IsEarlier (spot_of w.0) spot ⊎ ((w.0.entry ≡ spot.entry) × (w.0.place ≡ spot.place) × (added.0.listener.0 ≤ other.0))
    before other spot q =
        let r = ready-row sights history l stands other spot q in
        let all = in-all (λ (x : Row). is_busy_row l.turns x ≡ false → All (λ (v : Waiting). ComesFirst next.place (id_of row) v.place (id_of x)) x.waiting) l.rows r.row e.earliest r.live r.free in
        let comes = in-all (λ (v : Waiting). ComesFirst next.place (id_of row) v.place (id_of r.row)) r.row.waiting (waiting_of r.seen) all (subst (In (waiting_of r.seen)) (sym r.first) (inl refl)) in
        let here : ComesFirst (place_of w.0) (id_of row) (place_of r.seen) (id_of r.row) = subst (λ (v : Waiting). ComesFirst v.place (id_of row) (place_of r.seen) (id_of r.row)) (sym w.3) comes in
        let low : In w.0 sights = of-sights sights history added.0.listener w.0 (subst (In w.0) (sym w.2) (inl refl)) in
        let o = order w.0 r.seen (id_of row) (id_of r.row) (fits w.0 low) (fits r.seen r.known) here in
        subst (λ (x : Spot). IsEarlier (spot_of w.0) x ⊎ ((w.0.entry ≡ x.entry) × (w.0.place ≡ x.place) × (added.0.listener.0 ≤ other.0))) r.same
        (elim o [
          | inl y ↦ inl y
          | inr y ↦ (let mine : id_of row ≡ added.0.listener.0 = ap (λ (k : ListenerId). k.0) ids in let its = r.is in let least = y.2 in inr (y.0, y.1, omega (arith, mine, its, least)))
        ])

    earliest : IsEarliest sights history added.0.listener (spot_of w.0)
    earliest = record { ready = ready; first = before }

-- ---- the answer

pub answers-handed :
    (now : Moment) (l : Listening) (row : Row) (next : Waiting) → AreSmall now.sights → AreHandedFirst now.sights now.before → AreInOrder l → StandsFor now.sights now.before l → IsEarliestOfRows l row next →
    IsHanding now (answer.Handed row.listener.listener row.listener.kind row.listener.owner (depot_row now.setting.depot now.before row.listener.owner) row.listener.name next.event)
answers-handed now l row next small first order stands e =
    let s = is-same-earliest now.sights now.before l row next small first stands e in
    let a = s.2.ready.added in
    let f = found-in (is_listener row.listener.listener) (listeners now.before) a s.2.ready.live in
    let r = added-row now.sights now.before l stands a f.0 in
    let id : id_of row ≡ id_of r.0 = sym (eqb-true a.listener.0 row.listener.listener.0 f.1) ∙ ap id_of r.2 in
    let one : row ≡ r.0 = same_row l.rows (ids_rise l.rows order.listeners.rising) row r.0 e.live (In-contains l.rows r.0 r.1) id in
    let k : row.listener ≡ listener_row a = ap (λ (x : Row). x.listener) one ∙ ap (λ (x : Row). x.listener) (sym r.2) in
    record {
      listener = row.listener.listener;
      spot = spot_of s.0;
      earliest = s.2;
      is = (λ i. answer.Handed row.listener.listener (k i).kind (k i).owner (depot_row now.setting.depot now.before (k i).owner) (k i).name (s.1 i).event);
    }

-- the row of the listener that an event is handed to
pub row-handed : (l : Listening) (listener : ListenerId) (happened : Event) → AreInOrder l → (h : IsHanded l listener happened) → row_at listener l.rows ≡ Some h.row
row-handed l listener happened order h =
    let id : id_of h.row ≡ listener.0 = ap (λ (k : ListenerId). k.0) h.to in
    let f = find-some (is_row_of listener) l.rows h.row (contains-In l.rows h.row h.earliest.live) (eq-eqb (id_of h.row) listener.0 id) in
    let g = found-in (is_row_of listener) l.rows f.0 f.1 in
    let same : f.0 ≡ h.row = same_row l.rows (ids_rise l.rows order.listeners.rising) f.0 h.row (In-contains l.rows f.0 g.0) h.earliest.live (eqb-true (id_of f.0) listener.0 g.1 ∙ sym id) in
    f.1 ∙ ap Some same

-- the same by what `next` and `row` answer
pub answers-next :
    (now : Moment) (l : Listening) (listener : ListenerId) (happened : Event) (r : ListenerRow) → AreSmall now.sights → AreHandedFirst now.sights now.before → AreInOrder l → StandsFor now.sights now.before l → IsHanded l listener happened →
    option_map listener_of (row_at listener l.rows) ≡ Some r → IsHanding now (answer.Handed listener r.kind r.owner (depot_row now.setting.depot now.before r.owner) r.name happened)
answers-next now l listener happened r small first order stands h e =
    let found : Some h.row.listener ≡ Some r = sym (ap (option_map listener_of) (row-handed l listener happened order h)) ∙ e in
    let is : h.row.listener ≡ r = cc found in
    subst (λ (p : ListenerId × ListenerRow × Event). IsHanding now (answer.Handed p.0 p.1.kind p.1.owner (depot_row now.setting.depot now.before p.1.owner) p.1.name p.2)) (λ i. (h.to i, is i, h.with i))
    (answers-handed now l h.row h.next small first order stands h.earliest)

-- ---- one answer alone

first_there : (waiting : List Waiting) (w : Waiting) → slice_get waiting 0 ≡ Some w → Contains waiting w
first_there [] w first = absurd (cc first)
first_there (v ∷ rest) w first = (0, omega arith, cc first)

said : {X : Type 0} (P : X → Type 0) (xs : List X) (x : X) → Contains xs x → All P xs → P x
said P xs x there all = subst P there.2 (all there.0 x there.1)

both_first : (p i q j : ℕ) → ComesFirst p i q j → ComesFirst q j p i → i ≡ j
both_first p i q j (inl before) (inl after) = absurd (omega (arith, before, after))
both_first p i q j (inl before) (inr same) = absurd (let is = same.0 in omega (arith, before, is))
both_first p i q j (inr same) (inl after) = absurd (let is = same.0 in omega (arith, after, is))
both_first p i q j (inr same) (inr other) = let low = same.1 in let high = other.1 in omega (arith, low, high)

comes_first : (l : Listening) (a b : Row) (v w : Waiting) → IsEarliestOfRows l a v → IsEarliestOfRows l b w → ComesFirst v.place (id_of a) w.place (id_of b)
comes_first l a b v w one other =
    let before : is_busy_row l.turns b ≡ false → All (λ (u : Waiting). ComesFirst v.place (id_of a) u.place (id_of b)) b.waiting =
    said (λ (row : Row). is_busy_row l.turns row ≡ false → All (λ (u : Waiting). ComesFirst v.place (id_of a) u.place (id_of row)) row.waiting) l.rows b other.live one.earliest in
    said (λ (u : Waiting). ComesFirst v.place (id_of a) u.place (id_of b)) b.waiting w (first_there b.waiting w other.first) (before other.free)

-- of two answers to a hand both are the same
pub handed_once : (l : Listening) (a b : ListenerId) (d e : Event) → AreInOrder l → IsHanded l a d → IsHanded l b e → (a ≡ b) × (d ≡ e)
handed_once l a b d e order one other =
    let rise = ids_rise l.rows order.listeners.rising in
    let ids : id_of one.row ≡ id_of other.row =
    both_first one.next.place (id_of one.row) other.next.place (id_of other.row) (comes_first l one.row other.row one.next other.next one.earliest other.earliest) (comes_first l other.row one.row other.next one.next other.earliest one.earliest) in
    let rows : one.row ≡ other.row = same_row l.rows rise one.row other.row one.earliest.live other.earliest.live ids in
    let firsts : Some one.next ≡ Some other.next = sym one.earliest.first ∙ ap (λ (r : Row). slice_get r.waiting 0) rows ∙ other.earliest.first in
    let next : one.next ≡ other.next = cc firsts in
    (sym one.to ∙ ap (λ (r : Row). r.listener.listener) rows ∙ other.to, sym one.with ∙ ap (λ (w : Waiting). w.event) next ∙ other.with)
