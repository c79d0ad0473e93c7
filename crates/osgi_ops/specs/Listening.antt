-- The listeners of a history, the events of its entries, who sees them, and what was handed.
use Rattle.std.specs.Prelude.{ℕ, ◌≡◌, ◌==◌, ◌+◌, ◌&&◌, ⊤, not, Bool, true, false, if◌then◌else◌, List, [], ◌∷◌, ◌++◌, Option, None, Some, All, AllPairs, Contains, filter, find, length, map, codes, ◌⊎◌, ◌<◌, ◌≤◌, pos}
use Rattle.std.specs.List.{list_any}
use Rattle.std.specs.Option.{option_map, option_map_or, option_to_list}
use Rattle.std.specs.Str.{bytes_eq, str_eq_ignore_ascii_case}
use Rattle.osgi_base.specs.declared.ids.BundleId.{BundleId}
use Rattle.osgi_base.specs.declared.ids.ListenerId.{ListenerId}
use Rattle.osgi_base.specs.declared.ids.ServiceId.{ServiceId}
use Rattle.osgi_model.specs.Matching.{Matches}
use Rattle.osgi_model.specs.declared.filter.Filter.{Filter}
use Rattle.osgi_model.specs.declared.value.Attribute.{Attribute}
use Rattle.osgi_model.specs.declared.value.Value.TheVariants as value
use Rattle.osgi_ops.specs.Along.{along, carry}
use Rattle.osgi_ops.specs.Assignable.{IsAssignable}
use Rattle.osgi_ops.specs.Brackets.{brackets, Bracket, Cause, handing}
use Rattle.osgi_ops.specs.Bundles.{system}
use Rattle.osgi_ops.specs.Cleaning.{cleaned_by}
use Rattle.osgi_ops.specs.Properties.{property}
use Rattle.osgi_ops.specs.Replies.{is_accepted, took_effect}
use Rattle.osgi_ops.specs.Resolved.{current_revision, is_resolved}
use Rattle.osgi_ops.specs.Services.{live_service_at, live_services, service_now}
use Rattle.osgi_ops.specs.Waiting.{is_waiting}
use Rattle.osgi_ops.specs.Moments.{Told, Seen, Sight}
use Rattle.osgi_ops.specs.declared.entry.Entry.{Entry}
use Rattle.osgi_ops.specs.declared.event.Event.{Event}
use Rattle.osgi_ops.specs.declared.event.Event.TheVariants as event
use Rattle.osgi_ops.specs.declared.event_codes.TheConstants.{BUNDLE_INSTALLED, BUNDLE_LAZY_ACTIVATION, BUNDLE_RESOLVED, BUNDLE_STARTED, BUNDLE_STARTING, BUNDLE_STOPPED, BUNDLE_STOPPING, BUNDLE_UNINSTALLED, BUNDLE_UNRESOLVED, BUNDLE_UPDATED, FRAMEWORK_PACKAGES_REFRESHED, FRAMEWORK_STARTLEVEL_CHANGED, SERVICE_MODIFIED, SERVICE_MODIFIED_ENDMATCH, SERVICE_REGISTERED, SERVICE_UNREGISTERING}
use Rattle.osgi_ops.specs.declared.kind.Kind.{Kind}
use Rattle.osgi_ops.specs.declared.kind.Kind.TheVariants as kind
use Rattle.osgi_ops.specs.declared.op.Op.{Op}
use Rattle.osgi_ops.specs.declared.op.Op.TheVariants as op
use Rattle.osgi_ops.specs.declared.reply.Reply.{Reply}
use Rattle.osgi_ops.specs.declared.reply.Reply.TheVariants as answer
use Rattle.osgi_ops.specs.declared.service.Service as declared
use Rattle.osgi_world.specs.declared.world.Known.{Known}
use Rattle.osgi_world.specs.declared.world.World.{World}

-- ---- listeners

-- a listener as its AddListener tells it
pub record Added : Type 0 where
  pub listener : ListenerId
  pub owner : BundleId
  pub name : List ℕ
  pub kind : Kind
  pub given : Option Filter

-- what becomes of the listeners: one is added, the one of an owner and a name goes, or those of a bundle go
pub data HearingChange : Type 0 where
  adds : BundleId → List ℕ → Kind → Option Filter → HearingChange
  lets_go : BundleId → List ℕ → HearingChange
  clears : BundleId → HearingChange

-- what an operation with its reply says of the listeners
abbrev pub heard_by : Op → Reply → Option HearingChange
heard_by (op.AddListener owner name kind given) reply = if is_accepted reply then Some (adds owner name kind given) else None
heard_by (op.RemoveListener by removed) (answer.Flag value) = if value then Some (lets_go by removed) else None
heard_by op reply = option_map clears (cleaned_by op reply)

abbrev pub takes_off : BundleId → List ℕ → HearingChange → Bool
takes_off owner name (adds by added kind given) = false
takes_off owner name (lets_go by removed) = (by.0 == owner.0) && bytes_eq removed name
takes_off owner name (clears bundle) = bundle.0 == owner.0

-- the operation removes the owner's listener of this name, being a RemoveListener that found it or a cleaning
abbrev pub removes : BundleId → List ℕ → Op → Reply → Bool
removes owner name op reply = option_map_or (takes_off owner name) (heard_by op reply) false

-- how many listeners were added, and those that are live
pub record Hearing : Type 0 where
  pub count : ℕ
  pub live : List Added

-- a listener is live from its AddListener on, until it is removed; its id is one more than the number of those before it
abbrev pub with_heard : Option HearingChange → Hearing → Hearing
with_heard None before = before
with_heard (Some (adds owner name kind given)) before = record {
  count = before.count + 1;
  live = before.live ++ record { listener = record { 0 = before.count + 1 }; owner = owner; name = name; kind = kind; given = given } ∷ [];
}
with_heard (Some change) before = record { count = before.count; live = filter (λ (a : Added). not (takes_off a.owner a.name change)) before.live }

abbrev pub hearing : List Entry → Hearing
hearing history = carry (λ before e. with_heard (heard_by e.op e.reply) before) (record { count = 0; live = [] }) history

abbrev pub listeners : List Entry → List Added
listeners history = (hearing history).live

abbrev pub is_listener : ListenerId → Added → Bool
is_listener listener a = a.listener.0 == listener.0

-- the live listener of this id, if there is one
abbrev pub listener_at : ListenerId → List Entry → Option Added
listener_at listener history = find (is_listener listener) (listeners history)

-- ---- events

-- what happens at an entry, with what filters read of it
pub data Happening : Type 0 where
  -- a service came or went, as it stands or last stood
  service : ℕ → declared.Service → Happening
  -- its properties changed: as it stood, and as it stands
  modified : declared.Service → declared.Service → Happening
  -- something became of a bundle; its name and version are those of its current or last current revision
  bundle : ℕ → BundleId → Option Known → Happening
  framework : ℕ → Happening

abbrev pub services_at : ServiceId → List Entry → List declared.Service
services_at id history = map service_now (option_to_list (live_service_at id history))

-- the bundle's services go, by rising id
abbrev pub leaving : Option BundleId → List Entry → List Happening
leaving None history = []
leaving (Some owner) history = map (λ r. service SERVICE_UNREGISTERING (service_now r)) (filter (λ r. r.owner.0 == owner.0) (live_services history))

abbrev pub of_bundle : ℕ → World → World → BundleId → Happening
of_bundle code before after b = bundle code b (elim (current_revision after b) [ Some k ↦ Some k | None ↦ current_revision before b ])

-- it is no longer resolved, where it was
abbrev pub unresolving : World → World → BundleId → List Happening
unresolving before after b = if is_resolved before b then of_bundle BUNDLE_UNRESOLVED before after b ∷ [] else []

abbrev pub modifications : List declared.Service → List declared.Service → List Happening
modifications (old ∷ []) (new ∷ []) = modified old new ∷ []
modifications _ _ = []

-- what happens at an operation that took effect, after these entries and between these worlds, in order
abbrev pub happenings : List Entry → World → World → Entry → Op → Reply → List Happening
happenings past before after e (op.Register owner classes object scope properties) (answer.Service id) = map (service SERVICE_REGISTERED) (services_at id (past ++ e ∷ []))
happenings past before after e (op.Modify owner id properties) reply =
    if is_accepted reply then modifications (services_at id past) (services_at id (past ++ e ∷ [])) else []
happenings past before after e (op.Unregister owner id) reply = if is_accepted reply then map (service SERVICE_UNREGISTERING) (services_at id past) else []
happenings past before after e (op.Install location) (answer.Bundle b false) = of_bundle BUNDLE_INSTALLED before after b ∷ []
happenings past before after e (op.Resolve b) (answer.Resolved all) = map (of_bundle BUNDLE_RESOLVED before after) all
happenings past before after e (op.BeginStart b transient) (answer.Begun begun row) = of_bundle BUNDLE_STARTING before after b ∷ []
happenings past before after e (op.EndStart b fails) answer.Done = of_bundle BUNDLE_STARTED before after b ∷ []
happenings past before after e (op.EndStart b fails) reply =
    if took_effect reply then of_bundle BUNDLE_STOPPING before after b ∷ leaving (Some b) past ++ of_bundle BUNDLE_STOPPED before after b ∷ [] else []
happenings past before after e (op.BeginStop target transient) (answer.Begun b row) = of_bundle BUNDLE_STOPPING before after b ∷ []
happenings past before after e (op.BeginStop target transient) (answer.Idle b) =
    if is_waiting b past then of_bundle BUNDLE_STOPPING before after b ∷ of_bundle BUNDLE_STOPPED before after b ∷ [] else []
happenings past before after e (op.Await asked) (answer.Waiting b) = of_bundle BUNDLE_LAZY_ACTIVATION before after b ∷ []
happenings past before after e (op.EndStop b fails) reply = if took_effect reply then leaving (Some b) past ++ of_bundle BUNDLE_STOPPED before after b ∷ [] else []
happenings past before after e (op.Update b location) reply = if is_accepted reply then unresolving before after b ++ of_bundle BUNDLE_UPDATED before after b ∷ [] else []
happenings past before after e (op.Uninstall b) reply = if is_accepted reply then unresolving before after b ++ of_bundle BUNDLE_UNINSTALLED before after b ∷ [] else []
happenings past before after e op.DropWirings (answer.Ids ids) = map (of_bundle BUNDLE_UNRESOLVED before after) ids
happenings past before after e op.EndRefresh reply = if is_accepted reply then framework FRAMEWORK_PACKAGES_REFRESHED ∷ [] else []
happenings past before after e op.EndLevel reply = if is_accepted reply then framework FRAMEWORK_STARTLEVEL_CHANGED ∷ [] else []
happenings past before after e _ _ = []

-- ---- who sees them

-- the filter, where one is given, matches the attributes, whose names are compared without ASCII case
abbrev pub LetsPass : Option Filter → List Attribute → Type 0
LetsPass None attributes = ⊤
LetsPass (Some given) attributes = Matches str_eq_ignore_ascii_case attributes given

-- the listener asks for events of services, and of this service's classes
abbrev pub AsksFor : World → Added → declared.Service → Type 0
AsksFor world a s =
    (a.kind ≡ kind.All) ⊎ ((a.kind ≡ kind.Service) × All (λ (class : List ℕ). IsAssignable world s.owner a.owner class) s.classes)

abbrev pub number : List ℕ → ℕ → Attribute
number name n = property name (value.Long (pos n))

abbrev pub known_attributes : Option Known → List Attribute
known_attributes None = []
known_attributes (Some k) = property (codes "bundle.name") (value.Text k.revision.name) ∷ property (codes "bundle.version") (value.Version k.revision.version) ∷ []

abbrev pub attributes_of : ℕ → BundleId → Option Known → List Attribute
attributes_of code b known = number (codes "event.type") code ∷ number (codes "bundle.id") b.0 ∷ known_attributes known

-- the listener sees the happening as this event, in the world after it
abbrev pub SeesAs : World → Added → Happening → Event → Type 0
SeesAs world a (service code s) seen = AsksFor world a s × LetsPass a.given s.properties × (seen ≡ event.Service code s.service)
SeesAs world a (modified old new) seen =
    AsksFor world a new ×
    ((LetsPass a.given new.properties × (seen ≡ event.Service SERVICE_MODIFIED new.service))
    ⊎ ((¬ LetsPass a.given new.properties) × LetsPass a.given old.properties × (seen ≡ event.Service SERVICE_MODIFIED_ENDMATCH new.service)))
SeesAs world a (bundle code b known) seen = (a.kind ≡ kind.Bundle) × LetsPass a.given (attributes_of code b known) × (seen ≡ event.Bundle code b)
SeesAs world a (framework code) seen = (a.kind ≡ kind.Framework) × LetsPass a.given (attributes_of code system None) × (seen ≡ event.Framework code)

-- one of the list, with its place
pub data IsAt {A : Type 0} : ℕ → List A → A → Type 0 where
  here : {item : A} {rest : List A} → IsAt 0 (item ∷ rest) item
  there : {place : ℕ} {first item : A} {rest : List A} → IsAt place rest item → IsAt (1 + place) (first ∷ rest) item

-- what is told is seen: by a listener that was live before the entry and that the entry does not remove
pub record IsSight (past : List Entry) (before after : World) (e : Entry) (s : Sight) : Type 0 where
  pub listener : Added
  pub is : listener_at s.listener past ≡ Some listener
  pub stays : removes listener.owner listener.name e.op e.reply ≡ false
  pub happening : Happening
  pub at : IsAt s.place (happenings past before after e e.op e.reply) happening
  pub sees : SeesAs after listener happening s.event

-- of one entry the earlier places come first, and of one place the lower listeners
abbrev pub ComesBefore : Sight → Sight → Type 0
ComesBefore s t = (s.place < t.place) ⊎ ((s.place ≡ t.place) × (s.listener.0 < t.listener.0))

-- exactly what is seen is told, in order
pub record AreSights (past : List Entry) (before after : World) (e : Entry) (sights : List Sight) : Type 0 where
  pub only : All (IsSight past before after e) sights
  pub every : (s : Sight) → IsSight past before after e s → Contains sights s
  pub in_order : AllPairs ComesBefore sights

-- ---- due and handed

abbrev pub is_sight_of : ListenerId → Sight → Bool
is_sight_of listener s = s.listener.0 == listener.0

abbrev pub seen : ListenerId → List Told → Told → List Event
seen listener before x = map (λ (s : Sight). s.event) (filter (is_sight_of listener) x.sights)

-- the events that the listener sees in the history, in order
abbrev pub due : ListenerId → List Told → List Event
due listener told = along (seen listener) [] told

abbrev pub handed_by : ListenerId → Op → Reply → List Event
handed_by listener op.Hand (answer.Handed to kind owner row name event) = if to.0 == listener.0 then event ∷ [] else []
handed_by listener _ _ = []

abbrev pub hands : ListenerId → List Told → Told → List Event
hands listener before x = handed_by listener x.entry.op x.entry.reply

-- the events in the entries that answered Handed with the listener
abbrev pub handed : ListenerId → List Told → List Event
handed listener told = along (hands listener) [] told

-- the operation handed an event
abbrev pub is_handed : Op → Reply → Bool
is_handed op.Hand (answer.Handed to kind owner row name event) = true
is_handed _ _ = false

-- how many events were handed in all
abbrev pub handings : List Entry → ℕ
handings history = length (filter (λ e. is_handed e.op e.reply) history)

abbrev pub is_turn_of : ListenerId → Cause → Bool
is_turn_of listener (handing held) = held.0 == listener.0
is_turn_of listener _ = false

-- the listener is in a turn: a hand of it is not ended yet
abbrev pub is_in_turn : ListenerId → List Entry → Bool
is_in_turn listener history = list_any (λ (b : Bracket). is_turn_of listener b.cause) (brackets history)

-- an event that a listener sees, with its place in the history: that of its entry, and its own there
pub record Spot : Type 0 where
  pub entry : ℕ
  pub place : ℕ
  pub event : Event

abbrev pub spotted : ListenerId → List Told → Told → List Spot
spotted listener before x = map (λ (s : Sight). record { entry = length before; place = s.place; event = s.event }) (filter (is_sight_of listener) x.sights)

abbrev pub spots : ListenerId → List Told → List Spot
spots listener told = along (spotted listener) [] told

abbrev pub event_at : Spot → Event
event_at s = s.event

-- the same, of what listeners saw and of the entries alone
abbrev pub is_seen_by : ListenerId → Seen → Bool
is_seen_by listener s = s.listener.0 == listener.0

abbrev pub spot_of : Seen → Spot
spot_of s = record { entry = s.entry; place = s.place; event = s.event }

abbrev pub spots_of : ListenerId → List Seen → List Spot
spots_of listener sights = map spot_of (filter (is_seen_by listener) sights)

abbrev pub handed_in : ListenerId → List Entry → List Event
handed_in listener history = along (λ before e. handed_by listener e.op e.reply) [] history

-- the listener's next event stands in `due` after `handed`
pub record IsNext (sights : List Seen) (history : List Entry) (listener : ListenerId) (next : Spot) : Type 0 where
  pub past : List Spot
  pub rest : List Spot
  pub due : spots_of listener sights ≡ past ++ next ∷ rest
  pub handed : map event_at past ≡ handed_in listener history

-- and it may be handed now: the listener is live and in no turn
pub record IsReady (sights : List Seen) (history : List Entry) (listener : ListenerId) (spot : Spot) : Type 0 where
  pub added : Added
  pub live : listener_at listener history ≡ Some added
  pub free : is_in_turn listener history ≡ false
  pub next : IsNext sights history listener spot

-- the earlier entry comes first, then the earlier place
abbrev pub IsEarlier : Spot → Spot → Type 0
IsEarlier s t = (s.entry < t.entry) ⊎ ((s.entry ≡ t.entry) × (s.place < t.place))

-- the earliest event that may be handed now, and of the listeners with it the one of the lowest id
pub record IsEarliest (sights : List Seen) (history : List Entry) (listener : ListenerId) (next : Spot) : Type 0 where
  pub ready : IsReady sights history listener next
  pub first : (other : ListenerId) (spot : Spot) → IsReady sights history other spot →
      IsEarlier next spot ⊎ ((next.entry ≡ spot.entry) × (next.place ≡ spot.place) × (listener.0 ≤ other.0))
