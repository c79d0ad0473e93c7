-- The bundles of a history, read off its entries: what was installed, what is live, and their states.
use Rattle.std.specs.Prelude.{ℕ, ◌==◌, ◌+◌, ◌&&◌, ◌||◌, not, Bool, true, false, if◌then◌else◌, List, [], ◌∷◌, ◌++◌, Option, None, Some, filter, find, length, unwrap_or}
use Rattle.std.specs.List.{filter_map, list_any}
use Rattle.std.specs.Option.{is_some, option_map, option_map_or}
use Rattle.std.specs.Str.{bytes_eq}
use Rattle.osgi_base.specs.declared.ids.BundleId.{BundleId}
use Rattle.osgi_base.specs.declared.ids.Tag.{Tag}
use Rattle.osgi_ops.specs.Along.{latest}
use Rattle.osgi_ops.specs.Depots.{stored_revision, row_number}
use Rattle.osgi_ops.specs.Replies.{is_accepted, took_effect}
use Rattle.osgi_ops.specs.Resolved.{is_resolved}
use Rattle.osgi_ops.specs.declared.depot.DepotRow.{DepotRow}
use Rattle.osgi_ops.specs.declared.op.Op.{Op}
use Rattle.osgi_ops.specs.declared.op.Op.TheVariants as op
use Rattle.osgi_ops.specs.declared.reply.Reply.{Reply}
use Rattle.osgi_ops.specs.declared.reply.Reply.TheVariants as answer
use Rattle.osgi_ops.specs.declared.entry.Entry.{Entry}
use Rattle.osgi_ops.specs.declared.state.TheConstants.{ACTIVE, INSTALLED, RESOLVED, STARTING, STOPPING, UNINSTALLED}
use Rattle.osgi_world.specs.System.{system_revision}
use Rattle.osgi_world.specs.declared.revision.Revision.{Revision}
use Rattle.osgi_world.specs.declared.world.World.{World}

-- the system bundle, which runs the console's commands
abbrev pub system : BundleId
system = record { 0 = 0 }

-- the bundle of this number is one of the list
abbrev pub lists_bundle : List BundleId → ℕ → Bool
lists_bundle bundles bundle = list_any (λ (b : BundleId). b.0 == bundle) bundles

-- a bundle as its Install tells it, with the entries since
pub record Installed : Type 0 where
  pub bundle : BundleId
  pub location : List ℕ
  pub since : List Entry

-- what an operation installed, being an Install of a location that was not known: its id is one more than the number of
-- those before it
abbrev pub installed_by : ℕ → Op → Reply → List Entry → List Installed
installed_by earlier (op.Install location) (answer.Bundle bundle false) since = record { bundle = record { 0 = earlier + 1 }; location = location; since = since } ∷ []
installed_by earlier _ _ since = []

abbrev pub installed_after : ℕ → List Entry → List Installed
installed_after earlier [] = []
installed_after earlier (e ∷ since) =
    let here = installed_by earlier e.op e.reply since in here ++ installed_after (earlier + length here) since

-- all that was installed, in order; the system bundle is not among them
abbrev pub installed : List Entry → List Installed
installed history = installed_after 0 history

abbrev pub is_uninstall : BundleId → Op → Reply → Bool
is_uninstall bundle (op.Uninstall gone) reply = is_accepted reply && (gone.0 == bundle.0)
is_uninstall bundle _ reply = false

-- live from its Install on, until an accepted Uninstall
abbrev pub is_there : Installed → Bool
is_there i = not (list_any (λ e. is_uninstall i.bundle e.op e.reply) i.since)

abbrev pub live : List Entry → List Installed
live history = filter is_there (installed history)

abbrev pub live_at : BundleId → List Entry → Option Installed
live_at bundle history = find (λ i. i.bundle.0 == bundle.0) (live history)

-- the bundle is there: it is the system bundle, or was installed and not uninstalled
abbrev pub is_live : BundleId → List Entry → Bool
is_live bundle history = (bundle.0 == 0) || is_some (live_at bundle history)

abbrev pub was_given : BundleId → List Entry → Bool
was_given bundle history = (bundle.0 == 0) || list_any (λ i. i.bundle.0 == bundle.0) (installed history)

-- ---- where a bundle's revision comes from

abbrev pub updated_to : BundleId → Op → Reply → Option (List ℕ)
updated_to bundle (op.Update updated location) reply = if is_accepted reply && (updated.0 == bundle.0) then Some location else None
updated_to bundle _ reply = None

-- the location of its last accepted Update, or of its Install
abbrev pub source : Installed → List ℕ
source i = unwrap_or (latest (λ e. updated_to i.bundle e.op e.reply) i.since) i.location

-- the operation brings a revision, being an Install of a location that was not known or an accepted Update
abbrev pub brings_revision : Op → Reply → Bool
brings_revision (op.Install location) (answer.Bundle bundle false) = true
brings_revision (op.Update bundle location) reply = is_accepted reply
brings_revision _ _ = false

-- how many revisions were brought
abbrev pub revisions : List Entry → ℕ
revisions history = length (filter (λ e. brings_revision e.op e.reply) history)

-- ---- live bundles as rows

-- a live bundle: its id, the location that it was installed from, and of its source the number of the depot's row and the revision
-- that the folder there describes
pub record Bundle : Type 0 where
  pub bundle : BundleId
  pub location : List ℕ
  pub row : ℕ
  pub revision : Revision

-- the system bundle is there from the start. It has the empty location, and no folder
abbrev pub the_system_bundle : Bundle
the_system_bundle = record { bundle = system; location = []; row = 0; revision = system_revision }

abbrev pub row_from : List DepotRow → Installed → Option Bundle
row_from depot i =
    option_map (λ (revision : Revision). record { bundle = i.bundle; location = i.location; row = row_number depot (source i); revision = revision }) (stored_revision depot (source i))

-- the live bundles by rising id, the system bundle first
abbrev pub bundles : List DepotRow → List Entry → List Bundle
bundles depot history = the_system_bundle ∷ filter_map (row_from depot) (live history)

abbrev pub has_location : List ℕ → Bundle → Bool
has_location location b = bytes_eq b.location location

-- the live bundle that was installed from this location, if one was
abbrev pub bundle_from : List DepotRow → List Entry → List ℕ → Option Bundle
bundle_from depot history location = find (has_location location) (bundles depot history)

-- the number of the depot's row of a live bundle's source; the system bundle's is 0
abbrev pub row_of : List DepotRow → List Entry → BundleId → ℕ
row_of depot history bundle = option_map_or (λ (i : Installed). row_number depot (source i)) (live_at bundle history) 0

-- ---- states

-- whether a bundle is at rest, starting, active or stopping
pub data Phase : Type 0 where
  idle : Phase
  starting : Phase
  active : Phase
  stopping : Phase

-- the phase that an operation with its reply puts the bundle into
abbrev pub put_into : BundleId → Op → Reply → Option Phase
put_into bundle (op.BeginStart begun transient) (answer.Begun b row) = if begun.0 == bundle.0 then Some starting else None
put_into bundle (op.EndStart ended fails) reply =
    if took_effect reply && (ended.0 == bundle.0) then Some (if is_accepted reply then active else idle) else None
put_into bundle (op.BeginStop target transient) (answer.Begun begun row) = if begun.0 == bundle.0 then Some stopping else None
put_into bundle (op.EndStop ended fails) reply = if took_effect reply && (ended.0 == bundle.0) then Some idle else None
put_into bundle _ _ = None

abbrev pub phase : BundleId → List Entry → Phase
phase bundle history = unwrap_or (latest (λ e. put_into bundle e.op e.reply) history) idle

-- the tag of an entry that begins a start or a stop of the bundle
abbrev pub begun_by : BundleId → Entry → Option Tag
begun_by bundle e = elim (put_into bundle e.op e.reply) [ Some starting ↦ Some e.tag | Some stopping ↦ Some e.tag | _ ↦ None ]

-- the tag of its last begin
abbrev pub last_begin : BundleId → List Entry → Option Tag
last_begin bundle history = latest (begun_by bundle) history

pub data State : Type 0 where
  Uninstalled : State
  Unresolved : State
  Resolved : State
  Starting : State
  Stopping : State
  Active : State

abbrev pub resting : Bool → State
resting true = Resolved
resting false = Unresolved

abbrev pub running : Phase → Bool → State
running idle resolved = resting resolved
running starting resolved = Starting
running active resolved = Active
running stopping resolved = Stopping

-- the bundle's state; the system bundle is always active. What was never given is taken as uninstalled, and is refused before its state is asked
abbrev pub state : World → List Entry → BundleId → State
state world history bundle =
    if bundle.0 == 0 then Active
    else (if is_live bundle history then running (phase bundle history) (is_resolved world bundle) else Uninstalled)

abbrev pub is_changing : State → Bool
is_changing Starting = true
is_changing Stopping = true
is_changing _ = false

abbrev pub is_active : State → Bool
is_active Active = true
is_active _ = false

-- it is starting, stopping or active
abbrev pub is_up : State → Bool
is_up state = is_active state || is_changing state

-- OSGi's number of a state
abbrev pub number_of : State → ℕ
number_of Uninstalled = UNINSTALLED
number_of Unresolved = INSTALLED
number_of Resolved = RESOLVED
number_of Starting = STARTING
number_of Stopping = STOPPING
number_of Active = ACTIVE
