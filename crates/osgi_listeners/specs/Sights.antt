-- What listeners see of an entry, and the rows where that waits behind what waited.
use Rattle.std.specs.Prelude.{ℕ, ◌+◌, ◌-◌, ◌*◌, ◌<◌, ◌≤◌, List, ◌++◌, All, filter, length, map}
use Rattle.osgi_base.specs.declared.ids.ListenerId.{ListenerId}
use Rattle.osgi_listeners.specs.Rows.{Row}
use Rattle.osgi_listeners.specs.declared.row.Waiting.{Waiting}
use Rattle.osgi_listeners.specs.declared.sight.Sight as declared
use Rattle.osgi_listeners.specs.declared.sight.TheConstants.{ENTRY_PLACES}
use Rattle.osgi_ops.specs.Listening.{is_sight_of}
use Rattle.osgi_ops.specs.Moments.{Sight}

-- what the code hands over is what the rules speak of
abbrev pub sight_of : declared.Sight → Sight
sight_of s = record { listener = s.listener; place = s.place; event = s.event }

abbrev pub sights_of : List declared.Sight → List Sight
sights_of sights = map sight_of sights

-- what the listener sees of these
abbrev pub sights_by : ListenerId → List Sight → List Sight
sights_by listener sights = filter (is_sight_of listener) sights

-- the place in the history of the happening at this place of its entry, where so many entries stand before that one
abbrev pub place_in : ℕ → ℕ → ℕ
place_in entry place = entry * ENTRY_PLACES + place

abbrev pub waiting_at : ℕ → Sight → Waiting
waiting_at entry s = record { place = place_in entry s.place; event = s.event }

-- what the row's listener sees of the entry is put behind what waits for it
abbrev pub told_all : ℕ → List Sight → Row → Row
told_all entry sights row =
    let own : List Sight = sights_by row.listener.listener sights in
    record { listener = row.listener; waiting = row.waiting ++ map (waiting_at entry) own; room = row.room - length own }

-- each listener has room for what it sees
abbrev pub HasRoomFor : List Sight → List Row → Type 0
HasRoomFor sights rows = All (λ row. length (sights_by row.listener.listener sights) ≤ row.room) rows

-- all that waits at the row is of entries before this one
abbrev pub IsOfEarlier : ℕ → Row → Type 0
IsOfEarlier entry row = All (λ (w : Waiting). w.place < entry * ENTRY_PLACES) row.waiting
