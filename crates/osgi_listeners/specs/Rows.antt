-- The live listeners as contracts see them: rows with the events that wait, the open turns, and what calls answer and change by them.
use Rattle.std.specs.Prelude.{ℕ, ◌≡◌, ◌⊎◌, ◌==◌, ◌+◌, ◌-◌, ◌<◌, ◌≤◌, ◌&&◌, nat_le, nat_lt, not, Bool, true, false, if◌then◌else◌, List, [], ◌∷◌, ◌++◌, Option, None, Some, All, AllPairs, Contains, find, filter, map, length, is_some, slice_get, slice_index_or, drop}
use Rattle.std.specs.BTreeMap.{insert_entry, is_at}
use Rattle.std.specs.List.{list_any}
use Rattle.std.specs.List.Sorted.{IsStrictlyIncreasing}
use Rattle.std.specs.Map.{lookup, remove_entry}
use Rattle.std.specs.Option.{option_map_or, option_or}
use Rattle.std.specs.Ordering.{nat_cmp}
use Rattle.std.specs.Str.{bytes_eq}
use Rattle.osgi_base.specs.declared.ids.BundleId.{BundleId}
use Rattle.osgi_base.specs.declared.ids.ListenerId.{ListenerId}
use Rattle.osgi_base.specs.declared.ids.Tag.{Tag}
use Rattle.osgi_listeners.specs.declared.answer.HandAnswer.{HandAnswer}
use Rattle.osgi_listeners.specs.declared.answer.HandAnswer.TheVariants.{Handed, Nothing}
use Rattle.osgi_listeners.specs.declared.row.ListenerRow.{ListenerRow}
use Rattle.osgi_listeners.specs.declared.row.Waiting.{Waiting}
use Rattle.osgi_ops.specs.declared.event.Busy.{Busy}
use Rattle.osgi_ops.specs.declared.event.Event.{Event}
use Rattle.osgi_ops.specs.declared.kind.Kind.{Kind}
use Rattle.osgi_ops.specs.declared.kind.Kind.TheVariants.{Service, All as AllServices, Bundle, Framework}
use Rattle.osgi_ops.specs.declared.limits.TheConstants.{MAX_LISTENERS}
use Rattle.osgi_ops.specs.declared.refusal.Many.TheVariants.{Listeners}
use Rattle.osgi_ops.specs.declared.refusal.Refusal.{Refusal}
use Rattle.osgi_ops.specs.declared.refusal.Refusal.TheVariants.{InvalidOperation, TooMany}

-- a live listener, the events that it has still to be handed, and for how many more there is room
pub record Row : Type 0 where
  pub listener : ListenerRow
  pub waiting : List Waiting
  pub room : ℕ

-- the live listeners by rising id; who is in a turn, by rising id, with the tag of its hand; and how many ids were given
pub record Listening : Type 0 where
  pub rows : List Row
  pub turns : List (ℕ × Tag)
  pub issued : ℕ

abbrev pub no_listeners : Listening
no_listeners = record { rows = []; turns = []; issued = 0 }

-- ---- rows

abbrev pub listener_of : Row → ListenerRow
listener_of row = row.listener

abbrev pub listeners_in : List Row → List ListenerRow
listeners_in rows = map listener_of rows

abbrev pub number_of : ListenerRow → ℕ
number_of listener = listener.listener.0

abbrev pub id_of : Row → ℕ
id_of row = number_of row.listener

abbrev pub ids_of : List Row → List ListenerId
ids_of rows = map (λ row. row.listener.listener) rows

abbrev pub is_listener : ListenerId → Row → Bool
is_listener listener row = id_of row == listener.0

-- the row of the listener, if it is live
abbrev pub row_at : ListenerId → List Row → Option Row
row_at listener rows = find (is_listener listener) rows

abbrev pub is_live : List Row → ListenerId → Bool
is_live rows listener = is_some (row_at listener rows)

-- the rows with a change at the listener
abbrev pub change : ListenerId → (Row → Row) → List Row → List Row
change listener f rows = map (λ row. if is_listener listener row then f row else row) rows

abbrev pub is_owned : BundleId → Row → Bool
is_owned owner row = row.listener.owner.0 == owner.0

-- the owner's of this name
abbrev pub is_named : BundleId → List ℕ → Row → Bool
is_named owner name row = is_owned owner row && bytes_eq row.listener.name name

abbrev pub same_kind : Kind → Kind → Bool
same_kind Service Service = true
same_kind AllServices AllServices = true
same_kind Bundle Bundle = true
same_kind Framework Framework = true
same_kind _ _ = false

abbrev pub is_kind : Kind → Row → Bool
is_kind kind row = same_kind row.listener.kind kind

-- the row without what it says of room
abbrev pub bare : Row → Row
bare row = record row { room = 0 }

-- ---- order

-- the ids are above 0 and rise, and all of them were given; no two listeners of one owner have one name; there are not too many
pub record AreListeners (listeners : List ListenerRow) (issued : ℕ) : Type 0 where
  pub rising : IsStrictlyIncreasing (map number_of listeners)
  pub given : All (λ (l : ListenerRow). (0 < number_of l) × (number_of l ≤ issued)) listeners
  pub apart : AllPairs (λ (a b : ListenerRow). a.owner ≡ b.owner → ¬ (a.name ≡ b.name)) listeners
  pub few : length listeners ≤ MAX_LISTENERS

abbrev pub place_of : Waiting → ℕ
place_of w = w.place

-- the place is above those of all events that wait at the row
abbrev pub IsLater : ℕ → Row → Type 0
IsLater place row = All (λ (w : Waiting). w.place < place) row.waiting

-- the events wait in the order of their places, which are below the greatest number of 64 bits
pub record AreInPlace (waiting : List Waiting) : Type 0 where
  pub rising : AllPairs (λ (v w : Waiting). v.place < w.place) waiting
  pub fit : All (λ (w : Waiting). w.place < 18446744073709551615) waiting

abbrev pub IsInPlace : Row → Type 0
IsInPlace row = AreInPlace row.waiting

-- the ids of the turns rise, all of them above n
abbrev pub RiseFrom : ℕ → List (ℕ × Tag) → Type 0
RiseFrom n [] = Unit {0}
RiseFrom n (turn ∷ rest) = (n < turn.0) × RiseFrom turn.0 rest

-- the turns stand by rising id, so no listener has two
abbrev pub AreRising : List (ℕ × Tag) → Type 0
AreRising [] = Unit {0}
AreRising (turn ∷ rest) = RiseFrom turn.0 rest

pub record AreInOrder (l : Listening) : Type 0 where
  pub listeners : AreListeners (listeners_in l.rows) l.issued
  pub waiting : All IsInPlace l.rows
  pub turns : AreRising l.turns

-- ---- room

-- each listener has room for so many events more
abbrev pub HasRoom : ℕ → List Row → Type 0
HasRoom events rows = All (λ row. events ≤ row.room) rows

-- the row can take an event of this place
abbrev pub Accepts : ℕ → Row → Type 0
Accepts place row = (0 < row.room) × IsLater place row

-- the same listener with the same events that wait, and no less room
pub record IsRoomier (old new : Row) : Type 0 where
  pub same : bare new ≡ bare old
  pub room : old.room ≤ new.room

-- so it is for each listener
pub record AreRoomierRows (old new : List Row) : Type 0 where
  pub count : length new ≡ length old
  pub each : (i : ℕ) (d : Row) → i < length old → IsRoomier (slice_index_or old i d) (slice_index_or new i d)

-- and nothing else has changed
pub record AreRoomier (old new : Listening) : Type 0 where
  pub rows : AreRoomierRows old.rows new.rows
  pub turns : new.turns ≡ old.turns
  pub issued : new.issued ≡ old.issued

-- ---- turns and waiting events

-- the tag of the listener's turn, if it is in one
abbrev pub tag_of : ℕ → List (ℕ × Tag) → Option Tag
tag_of listener turns = lookup (is_at (nat_cmp listener)) turns

abbrev pub is_in_turn : List (ℕ × Tag) → Row → Bool
is_in_turn turns row = is_some (tag_of (id_of row) turns)

abbrev pub has_waiting : Row → Bool
has_waiting row = nat_lt 0 (length row.waiting)

-- an event can be handed: one waits, and the listener is in no turn
abbrev pub is_open : List (ℕ × Tag) → Row → Bool
is_open turns row = not (is_in_turn turns row) && has_waiting row

-- the open turn is one of a live listener for which events wait
abbrev pub is_busy : List Row → (ℕ × Tag) → Bool
is_busy rows turn = option_map_or has_waiting (row_at (record { 0 = turn.0 }) rows) false

abbrev pub busy_of : (ℕ × Tag) → Busy
busy_of turn = record { listener = record { 0 = turn.0 }; tag = turn.1 }

-- the live listeners that are in a turn and for which events wait, with the tags of their turns
abbrev pub busy_in : Listening → List Busy
busy_in l = map busy_of (filter (is_busy l.rows) l.turns)

-- ---- changes

-- a listener as it is added
abbrev pub new_row : ListenerRow → Row
new_row listener = record { listener = listener; waiting = []; room = 0 }

-- the event is put behind those that wait
abbrev pub told : Waiting → Row → Row
told w row = record { listener = row.listener; waiting = row.waiting ++ w ∷ []; room = row.room - 1 }

abbrev pub told_if : ℕ → Option Event → Row → Row
told_if place None row = row
told_if place (Some event) row = told (record { place = place; event = event }) row

-- one of the answers that are given for the listener is put behind what waits for it; of room nothing is said
pub record IsPosted (place : ℕ) (Sees : ListenerId → Option Event → Type 0) (old new : Row) : Type 0 where
  pub answer : Option Event
  pub seen : Sees old.listener.listener answer
  pub is : bare new ≡ bare (told_if place answer old)

-- so it is for each listener
pub record ArePosted (place : ℕ) (Sees : ListenerId → Option Event → Type 0) (old new : List Row) : Type 0 where
  pub count : length new ≡ length old
  pub each : (i : ℕ) (d : Row) → i < length old → IsPosted place Sees (slice_index_or old i d) (slice_index_or new i d)

-- the first event that waits is handed
abbrev pub without_first : Row → Row
without_first row = record { listener = row.listener; waiting = drop 1 row.waiting; room = row.room + 1 }

abbrev pub rows_after : HandAnswer → List Row → List Row
rows_after (Handed listener event) rows = change listener without_first rows
rows_after (Nothing busy) rows = rows

abbrev pub turns_after : Tag → HandAnswer → List (ℕ × Tag) → List (ℕ × Tag)
turns_after tag (Handed listener event) turns = insert_entry nat_cmp turns listener.0 tag
turns_after tag (Nothing busy) turns = turns

abbrev pub without_turn : ListenerId → List (ℕ × Tag) → List (ℕ × Tag)
without_turn listener turns = remove_entry (is_at (nat_cmp listener.0)) turns

-- ---- the answer to a hand

-- the lower place comes first, and of one place the lower id
abbrev pub ComesFirst : ℕ → ℕ → ℕ → ℕ → Type 0
ComesFirst place id place' id' = (place < place') ⊎ ((place ≡ place') × (id ≤ id'))

-- the first event that waits for the listener of this row, which is in no turn; no event that waits for a listener in no turn comes
-- before it
pub record IsEarliest (l : Listening) (row : Row) (next : Waiting) : Type 0 where
  pub live : Contains l.rows row
  pub free : is_in_turn l.turns row ≡ false
  pub first : slice_get row.waiting 0 ≡ Some next
  pub earliest : All (λ other. is_in_turn l.turns other ≡ false → All (λ (w : Waiting). ComesFirst next.place (id_of row) w.place (id_of other)) other.waiting) l.rows

-- this event is handed to this listener
pub record IsHanded (l : Listening) (listener : ListenerId) (event : Event) : Type 0 where
  pub row : Row
  pub next : Waiting
  pub to : row.listener.listener ≡ listener
  pub with : next.event ≡ event
  pub earliest : IsEarliest l row next

-- where there is such an event it is handed; where none can be handed, the busy ones are named
abbrev pub AnswersHand : Listening → HandAnswer → Type 0
AnswersHand l (Handed listener event) = IsHanded l listener event
AnswersHand l (Nothing busy) = All (λ row. is_open l.turns row ≡ false) l.rows × (busy ≡ busy_in l)

-- ---- refusals

abbrev pub name_refusal : BundleId → List ℕ → List Row → Option Refusal
name_refusal owner name rows = if list_any (is_named owner name) rows then Some InvalidOperation else None

abbrev pub room_refusal : List Row → Option Refusal
room_refusal rows = if nat_le MAX_LISTENERS (length rows) then Some (TooMany Listeners) else None

-- why a listener is not added: the owner has a live one of the name, or there are as many as may be
abbrev pub add_refusal : BundleId → List ℕ → List Row → Option Refusal
add_refusal owner name rows = option_or (name_refusal owner name rows) (room_refusal rows)

-- the listener is in a turn of this tag
abbrev pub has_turn : Tag → ListenerId → List (ℕ × Tag) → Bool
has_turn tag listener turns = option_map_or (λ (opened : Tag). (opened.caller == tag.caller) && (opened.command == tag.command)) (tag_of listener.0 turns) false

-- why a turn is not ended: the listener is in none of this tag
abbrev pub end_refusal : Tag → ListenerId → List (ℕ × Tag) → Option Refusal
end_refusal tag listener turns = if has_turn tag listener turns then None else Some InvalidOperation
