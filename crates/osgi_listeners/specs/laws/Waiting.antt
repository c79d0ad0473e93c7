-- What waits, and the rows of a history: what filters, changes, sights and one more entry make of them.
use Rattle.std.proofs.Common.{◌≡◌, ℕ, zero, suc, ◌+◌, ◌≤◌, List, [], ◌∷◌, ◌++◌, append-nil, length, map, drop, Bool, true, false, refl, sym, ap, ◌∙◌, arith}
use Rattle.std.specs.Prelude.{cond, All, filter}
use Rattle.std.specs.List.{AllByRecursion}
use Rattle.std.proofs.lemmas.Bool.{ne_eqb}
use Rattle.std.proofs.lemmas.List.{length-append, length-map, map-append}
use Rattle.std.proofs.lemmas.List.Elements.{filter-append, recursion_from_All}
use Rattle.osgi_base.specs.declared.ids.ListenerId.{ListenerId}
use Rattle.osgi_listeners.specs.Rows.{bare, change, is_listener, Row}
use Rattle.osgi_ops.specs.Listening.{Added, handed_by, handed_in, hearing, heard_by, is_seen_by, with_heard, is_sight_of}
use Rattle.osgi_ops.specs.Moments.{Seen, seen_after, Sight}
use Rattle.osgi_ops.specs.declared.entry.Entry.{Entry}
use Rattle.osgi_ops.specs.declared.event.Event.{Event}
use Rattle.osgi_ops.specs.laws.Along.{along-last, carry-last}
use Rattle.osgi_listeners.specs.Stands.{AreHandedFirst, event_in, listener_row, row_of, seen_by, waiting_for, waiting_of}
use Rattle.osgi_listeners.specs.laws.Items.{drop-append, drop-one, filter-mapped, length-more, map-each, map-twice}
use Rattle.osgi_listeners.specs.Sights.{sights_by, waiting_at}

-- ---- one more entry

pub hearing-last : (history : List Entry) (e : Entry) → hearing (history ++ e ∷ []) ≡ with_heard (heard_by e.op e.reply) (hearing history)
hearing-last history e = carry-last (λ before (x : Entry). with_heard (heard_by x.op x.reply) before) (record { count = 0; live = [] }) history e

pub handed-last : (listener : ListenerId) (history : List Entry) (e : Entry) → handed_in listener (history ++ e ∷ []) ≡ handed_in listener history ++ handed_by listener e.op e.reply
handed-last listener history e = along-last (λ before (x : Entry). handed_by listener x.op x.reply) history e

pub handed-same : (history : List Entry) (e : Entry) → ((listener : ListenerId) → handed_by listener e.op e.reply ≡ []) → (listener : ListenerId) → handed_in listener (history ++ e ∷ []) ≡ handed_in listener history
handed-same history e none listener = handed-last listener history e ∙ ap (λ l. handed_in listener history ++ l) (none listener) ∙ append-nil (handed_in listener history)

-- the rows read of a history what was handed
pub rows-same : (sights : List Seen) (g h : List Entry) → ((listener : ListenerId) → handed_in listener h ≡ handed_in listener g) → (live : List Added) → map (row_of sights g) live ≡ map (row_of sights h) live
rows-same sights g h same live =
    map-each (row_of sights g) (row_of sights h)
    (λ a. λ i. record { listener = listener_row a; waiting = map waiting_of (drop (length (sym (same a.listener) i)) (seen_by a.listener sights)); room = 0 }) live

-- ---- filters and changes

pub rows-filtered : (sights : List Seen) (history : List Entry) (p : Row → Bool) (q : Added → Bool) → ((row : Row) → p (bare row) ≡ p row) → ((a : Added) → p (row_of sights history a) ≡ q a) →
    (rows : List Row) (live : List Added) → map bare rows ≡ map (row_of sights history) live → map bare (filter p rows) ≡ map (row_of sights history) (filter q live)
rows-filtered sights history p q same said rows live e = sym (filter-mapped bare p p same rows) ∙ ap (filter p) e ∙ filter-mapped (row_of sights history) p q said live

pub rows-changed : (sights seen : List Seen) (g h : List Entry) (listener : ListenerId) (f : Row → Row) → ((row : Row) → bare (f row) ≡ bare (f (bare row))) →
    ((a : Added) → cond (is_listener listener (row_of sights g a)) (bare (f (row_of sights g a))) (row_of sights g a) ≡ row_of seen h a) →
    (rows : List Row) (live : List Added) → map bare rows ≡ map (row_of sights g) live → map bare (change listener f rows) ≡ map (row_of seen h) live
rows-changed sights seen g h listener f same said rows live e = each rows ∙ ap (map c) e ∙ map-twice (row_of sights g) c (row_of seen h) said live
  where
    c : Row → Row
    c row = cond (is_listener listener row) (bare (f row)) row

    one : (row : Row) (k : Bool) → bare (cond k (f row) row) ≡ cond k (bare (f (bare row))) (bare row)
    one row true = same row
    one row false = refl

    each : (rs : List Row) → map bare (change listener f rs) ≡ map c (map bare rs)
    each [] = refl
    each (row ∷ rs) = λ i. one row (is_listener listener row) i ∷ each rs i

-- ---- what waits

abbrev no-sights : List Seen
no-sights = []

drop-none : (n : ℕ) → drop n no-sights ≡ no-sights
drop-none zero = refl
drop-none (suc n) = refl

abbrev seen_from : ℕ → Sight → Seen
seen_from entry s = record { listener = s.listener; entry = entry; place = s.place; event = s.event }

-- who was not added saw nothing
none-seen : (n : ℕ) (sights : List Seen) → AllByRecursion (λ (s : Seen). s.listener.0 ≤ n) sights → seen_by (record { 0 = n + 1 }) sights ≡ []
none-seen n [] h = refl
none-seen n (s ∷ rest) h =
    let low = h.0 in
    ap (λ t. cond t (s ∷ seen_by (record { 0 = n + 1 }) rest) (seen_by (record { 0 = n + 1 }) rest)) (ne_eqb s.listener.0 (n + 1) (λ e. omega (arith, e, low)))
    ∙ none-seen n rest h.1

pub none-waits : (n : ℕ) (sights : List Seen) (history : List Entry) → All (λ (s : Seen). s.listener.0 ≤ n) sights → [] ≡ waiting_for (record { 0 = n + 1 }) sights history
none-waits n sights history h =
    let listener : ListenerId = record { 0 = n + 1 } in
    sym (ap (λ l. map waiting_of (drop (length (handed_in listener history)) l)) (none-seen n sights (recursion_from_All (λ (s : Seen). s.listener.0 ≤ n) sights h))
    ∙ ap (map waiting_of) (drop-none (length (handed_in listener history))))

-- what was handed is no more than what was seen
pub handed-fewer : (sights : List Seen) (history : List Entry) → AreHandedFirst sights history → (listener : ListenerId) → length (handed_in listener history) ≤ length (seen_by listener sights)
handed-fewer sights history first listener =
    let r = first listener in
    let count : length (seen_by listener sights) ≡ length (handed_in listener history ++ r.0) = sym (length-map (seen_by listener sights) event_in) ∙ ap (λ (l : List Event). length l) r.1 in
    let both : length (handed_in listener history ++ r.0) ≡ length (handed_in listener history) + length r.0 = length-append (handed_in listener history) r.0 in
    omega (arith, count, both)

-- what is seen of an entry waits behind what waited
pub waits-seen : (sights : List Seen) (history : List Entry) (entry : ℕ) (these : List Sight) → AreHandedFirst sights history → (listener : ListenerId) →
    waiting_for listener sights history ++ map (waiting_at entry) (sights_by listener these) ≡ waiting_for listener (sights ++ seen_after entry these) history
waits-seen sights history entry these first listener =
    let n : ℕ = length (handed_in listener history) in
    let more : List Seen = seen_after entry these in
    let own : seen_by listener more ≡ map (seen_from entry) (sights_by listener these) = filter-mapped (seen_from entry) (is_seen_by listener) (is_sight_of listener) (λ s. refl) these in
    let waits : map waiting_of (seen_by listener more) ≡ map (waiting_at entry) (sights_by listener these) =
    ap (map waiting_of) own ∙ map-twice (seen_from entry) waiting_of (waiting_at entry) (λ s. refl) (sights_by listener these) in
    sym (ap (λ l. map waiting_of (drop n l)) (filter-append (is_seen_by listener) sights more)
    ∙ ap (map waiting_of) (drop-append n (seen_by listener sights) (seen_by listener more) (handed-fewer sights history first listener))
    ∙ map-append waiting_of (drop n (seen_by listener sights)) (seen_by listener more)
    ∙ ap (λ l. waiting_for listener sights history ++ l) waits)

-- one more hand
pub waits-fewer : (sights : List Seen) (history : List Entry) (e : Entry) (happened : Event) (listener : ListenerId) → handed_by listener e.op e.reply ≡ happened ∷ [] →
    drop 1 (waiting_for listener sights history) ≡ waiting_for listener sights (history ++ e ∷ [])
waits-fewer sights history e happened listener given =
    drop-one waiting_of (length (handed_in listener history)) (seen_by listener sights)
    ∙ ap (λ n. map waiting_of (drop n (seen_by listener sights)))
    (sym (ap (λ (l : List Event). length l) (handed-last listener history e ∙ ap (λ l. handed_in listener history ++ l) given) ∙ length-more (handed_in listener history) happened))

pub waits-same : (sights : List Seen) (history : List Entry) (e : Entry) (listener : ListenerId) → handed_by listener e.op e.reply ≡ [] →
    waiting_for listener sights history ≡ waiting_for listener sights (history ++ e ∷ [])
waits-same sights history e listener none =
    ap (λ (l : List Event). map waiting_of (drop (length l) (seen_by listener sights)))
    (sym (handed-last listener history e ∙ ap (λ l. handed_in listener history ++ l) none ∙ append-nil (handed_in listener history)))
