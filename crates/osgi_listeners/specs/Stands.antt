-- Which histories the live listeners stand for, and the facts of legal histories that the laws of their calls need.
use Rattle.std.specs.Prelude.{ℕ, ◌≡◌, ◌<◌, ◌≤◌, Bool, true, false, List, [], ◌∷◌, ◌++◌, Option, None, Some, All, drop, filter, find, length, map}
use Rattle.std.specs.List.{list_any}
use Rattle.std.specs.Option.{option_map}
use Rattle.osgi_base.specs.declared.ids.BundleId.{BundleId}
use Rattle.osgi_base.specs.declared.ids.ListenerId.{ListenerId}
use Rattle.osgi_base.specs.declared.ids.Tag.{Tag}
use Rattle.osgi_listeners.specs.Rows.{AreRising, bare, Listening, Row, tag_of}
use Rattle.osgi_listeners.specs.Sights.{place_in}
use Rattle.osgi_listeners.specs.declared.answer.HandAnswer.{HandAnswer}
use Rattle.osgi_listeners.specs.declared.answer.HandAnswer.TheVariants.{Handed, Nothing}
use Rattle.osgi_listeners.specs.declared.row.ListenerRow.{ListenerRow}
use Rattle.osgi_listeners.specs.declared.row.Waiting.{Waiting}
use Rattle.osgi_listeners.specs.declared.sight.TheConstants.{ENTRY_PLACES}
use Rattle.osgi_ops.specs.Brackets.{Bracket, brackets, closes}
use Rattle.osgi_ops.specs.Cleaning.{cleaned_by}
use Rattle.osgi_ops.specs.Listening.{Added, handed_by, handed_in, heard_by, hearing, is_seen_by, is_turn_of, listeners}
use Rattle.osgi_ops.specs.Moments.{Seen, seen_after, Sight}
use Rattle.osgi_ops.specs.declared.entry.Entry.{Entry}
use Rattle.osgi_ops.specs.declared.event.Event.{Event}
use Rattle.osgi_ops.specs.declared.kind.Kind.{Kind}
use Rattle.osgi_ops.specs.declared.op.Op.TheVariants as op
use Rattle.osgi_ops.specs.declared.reply.Reply.TheVariants as answer

-- the place under which an event waits: by the entry, then by the place among the happenings of the entry
abbrev pub place_of : Seen → ℕ
place_of s = place_in s.entry s.place

abbrev pub waiting_of : Seen → Waiting
waiting_of s = record { place = place_of s; event = s.event }

abbrev pub seen_by : ListenerId → List Seen → List Seen
seen_by listener sights = filter (is_seen_by listener) sights

-- what the listener saw and was not handed yet, in order
abbrev pub waiting_for : ListenerId → List Seen → List Entry → List Waiting
waiting_for listener sights history = map waiting_of (drop (length (handed_in listener history)) (seen_by listener sights))

abbrev pub listener_row : Added → ListenerRow
listener_row a = record { listener = a.listener; owner = a.owner; name = a.name; kind = a.kind; filter = a.given }

-- a live listener with what waits for it; of room a history says nothing
abbrev pub row_of : List Seen → List Entry → Added → Row
row_of sights history a = record { listener = listener_row a; waiting = waiting_for a.listener sights history; room = 0 }

abbrev pub is_turn : ListenerId → Bracket → Bool
is_turn listener b = is_turn_of listener b.cause

abbrev pub tag_in : Bracket → Tag
tag_in b = b.tag

-- the tag of the listener's turn: that of the bracket that hands to it
abbrev pub turn_of : ℕ → List Bracket → Option Tag
turn_of listener opened = option_map tag_in (find (is_turn (record { 0 = listener })) opened)

-- row by row the live listeners of the history with what waits for them, its open turns, and as many ids as it added listeners
pub record StandsFor (sights : List Seen) (history : List Entry) (l : Listening) : Type 0 where
  pub rows : map bare l.rows ≡ map (row_of sights history) (listeners history)
  pub turns : (listener : ℕ) → tag_of listener l.turns ≡ turn_of listener (brackets history)
  pub rising : AreRising l.turns
  pub issued : l.issued ≡ (hearing history).count

-- an entry that adds and removes no listener, hands to none, and begins and ends no turn
pub record IsQuietEntry (history : List Entry) (e : Entry) : Type 0 where
  pub heard : heard_by e.op e.reply ≡ None
  pub turns : (listener : ℕ) → turn_of listener (brackets (history ++ e ∷ [])) ≡ turn_of listener (brackets history)
  pub handed : (listener : ListenerId) → handed_by listener e.op e.reply ≡ []

-- ---- facts of legal histories that the laws need

-- who saw something was added before
abbrev pub AreOfAdded : List Seen → List Entry → Type 0
AreOfAdded sights history = All (λ (s : Seen). s.listener.0 ≤ (hearing history).count) sights

abbrev pub event_in : Seen → Event
event_in s = s.event

-- what a listener was handed are the first of the events that it saw
abbrev pub AreHandedFirst : List Seen → List Entry → Type 0
AreHandedFirst sights history = (listener : ListenerId) → (rest : List Event) × (map event_in (seen_by listener sights) ≡ handed_in listener history ++ rest)

-- one bracket at most hands to a listener
abbrev pub AreTurnsApart : List Bracket → Type 0
AreTurnsApart [] = Unit {0}
AreTurnsApart (b ∷ outer) = ((listener : ListenerId) → is_turn listener b ≡ true → list_any (is_turn listener) outer ≡ false) × AreTurnsApart outer

-- each entry of what was seen is one of the history
abbrev pub ArePast : List Seen → List Entry → Type 0
ArePast sights history = All (λ (s : Seen). s.entry < length history) sights

-- each place among the happenings of an entry is one that an entry has. No history says so: whoever keeps the listeners has to carry it
abbrev pub AreSmall : List Seen → Type 0
AreSmall sights = All (λ (s : Seen). s.place < ENTRY_PLACES) sights

-- ---- what the calls make of the history that they stand for

-- if they stood for a history, they stand for it with the AddListener that is answered with this id; who saw something was added before
abbrev pub StandsAdded : ListenerRow → Listening → Listening → Type 0
StandsAdded row old new =
    (sights : List Seen) (history : List Entry) (tag : Tag) → AreOfAdded sights history → StandsFor sights history old →
    StandsFor sights (history ++ record { tag = tag; op = op.AddListener row.owner row.name row.kind row.filter; reply = answer.Listener row.listener } ∷ []) new

-- with the RemoveListener that is answered so
abbrev pub StandsRemoved : BundleId → List ℕ → Bool → Listening → Listening → Type 0
StandsRemoved owner name found old new =
    (sights : List Seen) (history : List Entry) (tag : Tag) → StandsFor sights history old →
    StandsFor sights (history ++ record { tag = tag; op = op.RemoveListener owner name; reply = answer.Flag found } ∷ []) new

-- with an entry that cleans the bundle
abbrev pub StandsCleaned : BundleId → Listening → Listening → Type 0
StandsCleaned bundle old new =
    (sights : List Seen) (history : List Entry) (e : Entry) → cleaned_by e.op e.reply ≡ Some bundle → StandsFor sights history old → StandsFor sights (history ++ e ∷ []) new

-- with the Hand that is answered so, whatever else the reply says of the listener
abbrev pub StandsHanded : Tag → HandAnswer → Listening → Listening → Type 0
StandsHanded tag (Handed listener event) old new =
    (sights : List Seen) (history : List Entry) (kind : Kind) (owner : BundleId) (row : ℕ) (name : List ℕ) → StandsFor sights history old →
    StandsFor sights (history ++ record { tag = tag; op = op.Hand; reply = answer.Handed listener kind owner row name event } ∷ []) new
StandsHanded tag (Nothing busy) old new =
    (sights : List Seen) (history : List Entry) → StandsFor sights history old → StandsFor sights (history ++ record { tag = tag; op = op.Hand; reply = answer.Nothing busy } ∷ []) new

-- with the EndHand that ends the turn, which the line of the tag has open
abbrev pub StandsEnded : Tag → ListenerId → Listening → Listening → Type 0
StandsEnded tag listener old new =
    (sights : List Seen) (history : List Entry) → AreTurnsApart (brackets history) → closes tag (op.EndHand listener) (brackets history) ≡ true → StandsFor sights history old →
    StandsFor sights (history ++ record { tag = tag; op = op.EndHand listener; reply = answer.Done } ∷ []) new

-- where this is seen of the entry with this number, too
abbrev pub StandsSeen : ℕ → List Sight → Listening → Listening → Type 0
StandsSeen entry these old new =
    (sights : List Seen) (history : List Entry) → AreHandedFirst sights history → StandsFor sights history old → StandsFor (sights ++ seen_after entry these) history new
