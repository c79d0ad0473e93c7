-- Changes of the tables: which can be made, and what they make of them.
use Rattle.std.specs.Prelude.{ℕ, ◌≡◌, ◌+◌, ◌-◌, ◌^◌, ◌<◌, if◌then◌else◌, not, Bool, true, false, MatchBool, List, [], ◌∷◌, ◌++◌, Option, None, Some, All, filter, map}
use Rattle.std.specs.List.{filter_map}
use Rattle.std.specs.Option.{option_map, option_to_list}
use Rattle.std.specs.BTreeMap.{insert_entry}
use Rattle.std.specs.Ordering.{nat_cmp}
use Rattle.osgi_base.specs.declared.ids.BundleId.{BundleId}
use Rattle.osgi_base.specs.declared.ids.ListenerId.{ListenerId}
use Rattle.osgi_base.specs.declared.ids.Tag.{Tag}
use Rattle.osgi_brackets.specs.Open.{Closes, Opens}
use Rattle.osgi_brackets.specs.declared.brackets.Brackets.{Brackets}
use Rattle.osgi_bundle.specs.Rows.{IsInChange, IsSettable, IsStartable, IsStoppable, IsTwin, new_row, TableRows, with_state}
use Rattle.osgi_bundle.specs.Rows as table
use Rattle.osgi_bundle.specs.Stands.{StandsAfter, StandsPut, started_phase}
use Rattle.osgi_bundle.specs.declared.kept.BundleKept.{BundleKept}
use Rattle.osgi_listeners.specs.Rows.{add_refusal, change, is_named, IsHanded, Listening, without_first}
use Rattle.osgi_listeners.specs.Rows as listening
use Rattle.osgi_ops.specs.Brackets.{Cause}
use Rattle.osgi_ops.specs.Brackets as bracket
use Rattle.osgi_ops.specs.Bundles.{idle, Phase, starting, stopping}
use Rattle.osgi_ops.specs.Cleaning.{cleaned_by}
use Rattle.osgi_ops.specs.Jobs.{clears, Queued, queues, takes, with_jobs}
use Rattle.osgi_ops.specs.Resolved.{current_revision}
use Rattle.osgi_ops.specs.declared.asked.Asked.{Asked}
use Rattle.osgi_model.specs.declared.filter.Filter.{Filter}
use Rattle.osgi_ops.specs.declared.event.Event.{Event}
use Rattle.osgi_ops.specs.declared.event_codes.TheConstants.{BUNDLE_INSTALLED, BUNDLE_RESOLVED, BUNDLE_STARTED, BUNDLE_STARTING, BUNDLE_STOPPED, BUNDLE_STOPPING, SERVICE_REGISTERED, SERVICE_UNREGISTERING}
use Rattle.osgi_ops.specs.declared.kind.Kind.{Kind}
use Rattle.osgi_ops.specs.declared.op.Op.{Op}
use Rattle.osgi_ops.specs.declared.refusal.Refusal.{Refusal}
use Rattle.osgi_ops.specs.declared.reply.Reply.{Reply}
use Rattle.osgi_ops.specs.declared.state.TheConstants.{RESOLVED, STARTING, STOPPING}
use Rattle.osgi_registry.specs.Rows.{is_owned, LiveService, RegistryRows, row_at, services_in}
use Rattle.osgi_registry.specs.Stands.{StandsCleaned}
use Rattle.osgi_wiring.specs.States.{IsKeptWorld, MayExtend, WiringState, with_wirings}
use Rattle.osgi_world.specs.declared.revision.Revision.{Revision}
use Rattle.osgi_world.specs.declared.wiring.Wiring.{Wiring}
use Rattle.osgi_tables.specs.Replied.{IsAnswered, IsBrought}
use Rattle.osgi_tables.specs.declared.change.Change.{Change}
use Rattle.osgi_tables.specs.declared.change.Change.TheVariants.{BeginStart, BeginStop, EndStart, EndStop, Hand, Install, Listen, Nothing, Queue, Resolve, Services, TakeJob, Unlisten}
use Rattle.osgi_tables.specs.declared.tables.Tables.{Tables}
use Rattle.osgi_reply_services.specs.Changes as services
use Rattle.osgi_reply_services.specs.declared.change.ServiceChange.{ServiceChange}
use Rattle.osgi_reply_services.specs.declared.change.ServiceChange.TheVariants as service
use Rattle.osgi_sights.specs.Shown.{Shown}
use Rattle.osgi_sights.specs.Shown as shown

-- the rows where these bundles are resolved
abbrev pub with_resolved : List BundleId → List BundleKept → List BundleKept
with_resolved [] rows = rows
with_resolved (b ∷ bs) rows = with_resolved bs (with_state b RESOLVED rows)

-- the bundle is one as it is installed next, no live bundle has its name and version, and it has no current revision
pub record CanBeAdded (made : BundleKept) (bundles : TableRows) (wirings : WiringState) : Type 0 where
  pub next : made.bundle.0 ≡ bundles.issued + 1
  pub is_new : made ≡ new_row made.bundle made.location made.name made.version made.fragment made.row
  pub apart : (refusal : Refusal) → ¬ IsTwin made.name made.version bundles.rows refusal
  pub revisions : wirings.issued < 2 ^ 32 - 1
  pub fresh : current_revision wirings.world made.bundle ≡ None

-- the wirings may be put in force, and the bundles set as resolved
pub record CanBePut (added : List Wiring) (resolved : List BundleId) (bundles : TableRows) (wirings : WiringState) : Type 0 where
  pub extends : MayExtend wirings.world added
  pub settable : All (λ b. IsSettable b bundles.rows) resolved

-- the owner has no live listener of this name, there is room for one more, and an id is left
pub record CanBeHeard (owner : BundleId) (name : List ℕ) (l : Listening) : Type 0 where
  pub free : add_refusal owner name l.rows ≡ None
  pub ids : l.issued < 2 ^ 32 - 1

-- an event is to be handed to this listener next, and a hand may still hand one
pub record CanBeHanded (listener : ListenerId) (old : Tables) : Type 0 where
  pub event : Event
  pub next : IsHanded old.listeners listener event
  pub left : 0 < old.handings_left

-- the change can be made of these tables
abbrev pub CanBeMade : Change → Tables → Type 0
CanBeMade Nothing old = Unit {0}
CanBeMade (Services change) old = services.CanBeMade change old.registry
CanBeMade (Install made revision) old = CanBeAdded made old.bundles old.wirings
CanBeMade (Resolve added resolved) old = CanBePut added resolved old.bundles old.wirings
CanBeMade (Listen owner name kind filter) old = CanBeHeard owner name old.listeners
CanBeMade (Unlisten owner name) old = Unit {0}
CanBeMade (Hand tag listener) old = CanBeHanded listener old
CanBeMade (Queue owner name) old = Unit {0}
CanBeMade (TakeJob tag) old = Unit {0}
CanBeMade (BeginStart tag bundle) old = IsStartable bundle old.bundles.rows
CanBeMade (EndStart tag bundle failed) old = IsInChange STARTING tag bundle old.bundles.rows
CanBeMade (BeginStop tag bundle) old = IsStoppable bundle old.bundles.rows
CanBeMade (EndStop tag bundle) old = IsInChange STOPPING tag bundle old.bundles.rows

-- the registry changes
pub record ServicesChange (change : ServiceChange) (old new : Tables) : Type 0 where
  pub registry : RegistryRows
  pub changes : services.Changes change old.registry registry
  pub is : new ≡ record old { registry = registry }

-- the bundle is installed, and its revision is known
pub record AddsBundle (made : BundleKept) (revision : Revision) (old new : Tables) : Type 0 where
  pub bundles : TableRows
  pub wirings : WiringState
  pub stands : StandsAfter made.location made.name made.version made.fragment made.row made.bundle old.bundles bundles
  pub known : IsBrought made.bundle revision old.wirings wirings
  pub is : new ≡ record old { bundles = bundles; wirings = wirings }

-- the wirings are in force, and the bundles resolved
pub record ArePut (added : List Wiring) (resolved : List BundleId) (old new : Tables) : Type 0 where
  pub bundles : TableRows
  pub wirings : WiringState
  pub world : wirings.world ≡ with_wirings old.wirings.world added
  pub holds : IsKeptWorld wirings.world wirings.issued
  pub issued : wirings.issued ≡ old.wirings.issued
  pub rows : bundles.rows ≡ with_resolved resolved old.bundles.rows
  pub given : bundles.issued ≡ old.bundles.issued
  pub is : new ≡ record old { bundles = bundles; wirings = wirings }

-- the owner's listener of this name is added under the next id, and nothing waits for it
abbrev pub with_listener : BundleId → List ℕ → Kind → Option Filter → Listening → Listening
with_listener owner name kind given l = record {
  rows = l.rows ++ listening.new_row (record { listener = record { 0 = l.issued + 1 }; owner = owner; name = name; kind = kind; filter = given }) ∷ [];
  turns = l.turns;
  issued = l.issued + 1;
}

abbrev pub Listens : BundleId → List ℕ → Kind → Option Filter → Tables → Tables → Type 0
Listens owner name kind given old new = new ≡ record old { listeners = with_listener owner name kind given old.listeners }

-- the owner's listener of this name goes; an open turn stays
abbrev pub without_listener : BundleId → List ℕ → Listening → Listening
without_listener owner name l = record { rows = filter (λ row. not (is_named owner name row)) l.rows; turns = l.turns; issued = l.issued }

-- the first event that waits for the listener is handed: the listener is in a turn, for the line of the tag
abbrev pub with_turn : Tag → ListenerId → Listening → Listening
with_turn tag listener l = record {
  rows = change listener without_first l.rows;
  turns = insert_entry nat_cmp l.turns listener.0 tag;
  issued = l.issued;
}

-- so it is, a bracket of the tag's caller is open for that, and one hand less may hand an event
pub record Hands (tag : Tag) (listener : ListenerId) (old new : Tables) : Type 0 where
  pub brackets : Brackets
  pub opened : Opens old.brackets brackets tag (bracket.handing listener)
  pub is : new ≡ record old { brackets = brackets; listeners = with_turn tag listener old.listeners; handings_left = old.handings_left - 1 }

-- the job is queued, behind the others
abbrev pub IsQueued : BundleId → List ℕ → Tables → Tables → Type 0
IsQueued owner name old new = new ≡ record old { jobs = with_jobs (Some (queues (record { owner = owner; name = name }))) old.jobs }

-- the oldest job, where there is one, is no longer queued, and a bracket of the tag's caller is open for a job
pub record Takes (tag : Tag) (old new : Tables) : Type 0 where
  pub brackets : Brackets
  pub opened : Opens old.brackets brackets tag bracket.job
  pub is : new ≡ record old { brackets = brackets; jobs = with_jobs (Some takes) old.jobs }

-- the bundle is put into the phase, and a bracket of the tag's caller is open for that
pub record Begins (phase : Phase) (cause : Cause) (tag : Tag) (bundle : BundleId) (old new : Tables) : Type 0 where
  pub bundles : TableRows
  pub brackets : Brackets
  pub put : StandsPut phase tag bundle old.bundles bundles
  pub opened : Opens old.brackets brackets tag cause
  pub is : new ≡ record old { bundles = bundles; brackets = brackets }

-- the bundle's services and uses are let go, if that is so, and else nothing changes
abbrev pub Cleans : Bool → BundleId → RegistryRows → RegistryRows → Type 0
Cleans cleaned bundle old new = MatchBool cleaned (StandsCleaned bundle old new) (new ≡ old)

-- so are its listeners; open turns stay
abbrev pub without_listeners : Bool → BundleId → Listening → Listening
without_listeners true bundle l = record { rows = filter (λ row. not (listening.is_owned bundle row)) l.rows; turns = l.turns; issued = l.issued }
without_listeners false bundle l = l

-- and its jobs
abbrev pub without_jobs : Bool → BundleId → List Queued → List Queued
without_jobs true bundle jobs = with_jobs (Some (clears bundle)) jobs
without_jobs false bundle jobs = jobs

-- the bundle is put into the phase, its services, uses, listeners and jobs are let go if it is cleaned, and the innermost bracket of the
-- tag's caller is closed
pub record Ends (phase : Phase) (cleaned : Bool) (tag : Tag) (bundle : BundleId) (old new : Tables) : Type 0 where
  pub registry : RegistryRows
  pub bundles : TableRows
  pub brackets : Brackets
  pub cleans : Cleans cleaned bundle old.registry registry
  pub put : StandsPut phase tag bundle old.bundles bundles
  pub closed : Closes old.brackets brackets tag.caller
  pub is : new ≡ record old { registry = registry; bundles = bundles; brackets = brackets; listeners = without_listeners cleaned bundle old.listeners; jobs = without_jobs cleaned bundle old.jobs }

-- and then these are the tables
abbrev pub Changes : Change → Tables → Tables → Type 0
Changes Nothing old new = new ≡ old
Changes (Services change) old new = ServicesChange change old new
Changes (Install made revision) old new = AddsBundle made revision old new
Changes (Resolve added resolved) old new = ArePut added resolved old new
Changes (Listen owner name kind filter) old new = Listens owner name kind filter old new
Changes (Unlisten owner name) old new = new ≡ record old { listeners = without_listener owner name old.listeners }
Changes (Hand tag listener) old new = Hands tag listener old new
Changes (Queue owner name) old new = IsQueued owner name old new
Changes (TakeJob tag) old new = Takes tag old new
Changes (BeginStart tag bundle) old new = Begins starting (bracket.starting bundle) tag bundle old new
Changes (EndStart tag bundle failed) old new = Ends (started_phase failed) failed tag bundle old new
Changes (BeginStop tag bundle) old new = Begins stopping (bracket.stopping bundle) tag bundle old new
Changes (EndStop tag bundle) old new = Ends idle true tag bundle old new

-- ---- what happens as it is made

-- the bundle comes to this, as its row shows it. What happens to a bundle without a row is not shown; a change that can be made names
-- none
abbrev pub shown_at : ℕ → List BundleKept → BundleId → Option Shown
shown_at code rows b = option_map (λ (row : BundleKept). shown.bundle code b row.name row.version) (table.row_at b rows)

abbrev pub bundles_shown : ℕ → List BundleId → List BundleKept → List Shown
bundles_shown code ids rows = filter_map (shown_at code rows) ids

-- the bundle's services go
abbrev pub leaving : BundleId → RegistryRows → List Shown
leaving b registry = map (shown.service SERVICE_UNREGISTERING) (services_in (filter (is_owned b) registry.rows))

-- a service comes, is changed, or goes
abbrev pub services_shown : ServiceChange → RegistryRows → List Shown
services_shown (service.Insert made scope) registry = shown.service SERVICE_REGISTERED made ∷ []
services_shown (service.Modify made) registry = map (λ (row : LiveService). shown.modified row.service made) (option_to_list (row_at made.service registry.rows))
services_shown (service.Remove owner id) registry = map (λ (row : LiveService). shown.service SERVICE_UNREGISTERING row.service) (option_to_list (row_at id registry.rows))
services_shown (service.AddUse user id) registry = []
services_shown (service.TakeUse user id) registry = []
services_shown service.Nothing registry = []

-- what happens as the change is made, in order
abbrev pub happened : Change → RegistryRows → TableRows → List Shown
happened Nothing registry bundles = []
happened (Services change) registry bundles = services_shown change registry
happened (Install made revision) registry bundles = shown.bundle BUNDLE_INSTALLED made.bundle made.name made.version ∷ []
happened (Resolve added resolved) registry bundles = bundles_shown BUNDLE_RESOLVED resolved bundles.rows
happened (Listen owner name kind filter) registry bundles = []
happened (Unlisten owner name) registry bundles = []
happened (Hand tag listener) registry bundles = []
happened (Queue owner name) registry bundles = []
happened (TakeJob tag) registry bundles = []
happened (BeginStart tag bundle) registry bundles = bundles_shown BUNDLE_STARTING (bundle ∷ []) bundles.rows
happened (EndStart tag bundle true) registry bundles =
    bundles_shown BUNDLE_STOPPING (bundle ∷ []) bundles.rows ++ leaving bundle registry ++ bundles_shown BUNDLE_STOPPED (bundle ∷ []) bundles.rows
happened (EndStart tag bundle false) registry bundles = bundles_shown BUNDLE_STARTED (bundle ∷ []) bundles.rows
happened (BeginStop tag bundle) registry bundles = bundles_shown BUNDLE_STOPPING (bundle ∷ []) bundles.rows
happened (EndStop tag bundle) registry bundles = leaving bundle registry ++ bundles_shown BUNDLE_STOPPED (bundle ∷ []) bundles.rows

-- the bundle that it cleans
abbrev pub cleaned_in : Change → Option BundleId
cleaned_in Nothing = None
cleaned_in (Services change) = None
cleaned_in (Install made revision) = None
cleaned_in (Resolve added resolved) = None
cleaned_in (Listen owner name kind filter) = None
cleaned_in (Unlisten owner name) = None
cleaned_in (Hand tag listener) = None
cleaned_in (Queue owner name) = None
cleaned_in (TakeJob tag) = None
cleaned_in (BeginStart tag bundle) = None
cleaned_in (EndStart tag bundle failed) = if failed then Some bundle else None
cleaned_in (BeginStop tag bundle) = None
cleaned_in (EndStop tag bundle) = Some bundle

-- the reply and the change are decided: the change can be made, and once it is made, what was asked for is answered so, and this is what
-- happens
pub record IsReplyAndChange (asked : Asked) (tables : Tables) (reply : Reply) (change : Change) : Type 0 where
  pub possible : CanBeMade change tables
  pub cleans : cleaned_by asked.op reply ≡ cleaned_in change
  pub answered : (new : Tables) → Changes change tables new → IsAnswered asked tables new reply (happened change tables.registry tables.bundles)

-- it is the same whatever the tag
abbrev pub IsReplyAndChangeToAll : Op → Tables → Reply → Change → Type 0
IsReplyAndChangeToAll op tables reply change = (tag : Tag) → IsReplyAndChange (record { tag = tag; op = op }) tables reply change
