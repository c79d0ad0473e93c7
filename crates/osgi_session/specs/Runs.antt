-- How the calls of one caller read as runs of its plans.
use Rattle.std.specs.Prelude.{ℕ, ◌≡◌, ◌≢◌, Bool, true, false, List, [], ◌∷◌, ◌++◌, Option, None, Some, codes, unwrap_or}
use Rattle.osgi_base.specs.declared.ids.BundleId.{BundleId}
use Rattle.osgi_base.specs.declared.ids.ListenerId.{ListenerId}
use Rattle.osgi_base.specs.declared.ids.ServiceId.{ServiceId}
use Rattle.std.specs.Str.{bytes_eq}
use Rattle.osgi_session.specs.Plans.{End, done, bound, refused, failed, Plan, ask, run, stop, stirs, plan}
use Rattle.osgi_ops.specs.Bundles.{system}
use Rattle.osgi_session.specs.declared.command.Command.{Command}
use Rattle.osgi_session.specs.declared.command.Command.TheVariants as command
use Rattle.osgi_ops.specs.declared.event.Event.{Event}
use Rattle.osgi_ops.specs.declared.event.Event.TheVariants as event
use Rattle.osgi_ops.specs.declared.kind.Kind.{Kind}
use Rattle.osgi_ops.specs.declared.op.Op.{Op}
use Rattle.osgi_ops.specs.declared.op.Op.TheVariants.{Hand, EndHand, TakeJob, EndJob}
use Rattle.osgi_ops.specs.declared.target.Target.TheVariants.{Name}
use Rattle.osgi_ops.specs.declared.refusal.Refusal.TheVariants.{HandingsSpent}
use Rattle.osgi_ops.specs.declared.reply.Reply.{Reply}
use Rattle.osgi_ops.specs.declared.reply.Reply.TheVariants.{Refused, Handed, Job}
use Rattle.osgi_ops.specs.declared.section.Section.{Section}
use Rattle.osgi_ops.specs.declared.section.Section.TheVariants as section
use Rattle.osgi_session.specs.declared.statement.Statement.{Statement}
use Rattle.osgi_session.specs.declared.statement.Statement.TheVariants as statement

-- an operation with its reply
pub record Call : Type 0 where
  pub op : Op
  pub reply : Reply

abbrev pub call : Op → Reply → Call
call op reply = record { op = op; reply = reply }

-- ---- statements

-- what a variable of a section holds
pub record Binding : Type 0 where
  pub var : List ℕ
  pub service : ServiceId

abbrev pub no_service : ServiceId
no_service = record { 0 = 0 }

-- the service that a variable holds, by its latest binding; a variable that holds nothing stands for service 0
abbrev pub held : List Binding → List ℕ → ServiceId
held [] var = no_service
held (b ∷ earlier) var = elim (bytes_eq b.var var) [ true ↦ b.service | false ↦ held earlier var ]

-- the command that a statement runs as
abbrev pub command_of : BundleId → List Binding → Statement → Command
command_of owner bindings (statement.Register var classes object properties) = command.Register classes object properties
command_of owner bindings (statement.Modify var properties) = command.Modify (held bindings var) properties
command_of owner bindings (statement.Unregister var) = command.Unregister (held bindings var)
command_of owner bindings (statement.Find var class filter) = command.Find class filter
command_of owner bindings (statement.Get var) = command.Get (held bindings var)
command_of owner bindings (statement.Unget var) = command.Unget (held bindings var)
command_of owner bindings (statement.GetOwn var) = command.GetOwn (held bindings var)
command_of owner bindings (statement.Factory var classes scope name properties) = command.Factory classes scope name properties
command_of owner bindings (statement.Give text) = command.Give text
command_of owner bindings (statement.Start name) = command.Start (Name name) false
command_of owner bindings (statement.Stop name) = command.Stop (Name name) false
command_of owner bindings (statement.Load class) = command.Load owner class
command_of owner bindings (statement.Listen name kind filter) = command.Listen name kind filter
command_of owner bindings (statement.Unlisten name) = command.Unlisten name
command_of owner bindings (statement.Job name) = command.Job name
command_of owner bindings (statement.Print text) = command.Print text
command_of owner bindings (statement.Fail text) = command.Fail text

-- the variable that a statement binds
abbrev pub bound_by : Statement → Option (List ℕ)
bound_by (statement.Register var classes object properties) = Some var
bound_by (statement.Find var class filter) = Some var
bound_by (statement.Factory var classes scope name properties) = Some var
bound_by _ = None

abbrev pub bind : Option (List ℕ) → End → List Binding → List Binding
bind (Some var) (bound found) bindings = record { var = var; service = unwrap_or found no_service } ∷ bindings
bind _ _ bindings = bindings

-- a statement that was refused, or told to fail, ends its section as failed
abbrev pub has_failed : End → Bool
has_failed done = false
has_failed (bound found) = false
has_failed refused = true
has_failed failed = true

-- in a section that is run for a service event, the variable `event` holds its service
abbrev pub event_word : List ℕ
event_word = codes "event"

abbrev pub event_bindings : Event → List Binding
event_bindings (event.Service code service) = record { var = event_word; service = service } ∷ []
event_bindings _ = []

-- ---- runs

-- the statements of each section of the script of each row of the depot
abbrev pub Sections : Type 0
Sections = ℕ → Section → List Statement

-- what is to be read: a plan; a drain, or none where none follows; the statements of a section of a bundle's script, with what the
-- variables hold before them; or the jobs
pub data Task : Type 0 where
  planned : Plan → Task
  drained : Bool → Task
  statements : BundleId → List Binding → List Statement → Task
  taking : Task

-- a drain ends at Nothing, or where its Hand is refused; where enough was handed the whole command is cut
abbrev pub ends_drain : Reply → Bool
ends_drain (Handed listener kind owner row name event) = false
ends_drain (Refused HandingsSpent) = false
ends_drain _ = true

-- the jobs end at NoJob, or where their TakeJob is refused
abbrev pub ends_jobs : Reply → Bool
ends_jobs (Job owner row name) = false
ends_jobs _ = true

-- `Reads script task end calls left`: the task reads a beginning of the calls, up to those that are left, and ends so. Replies are free
-- here: which one comes, the legal history says
pub data Reads (script : Sections) : Task → End → List Call → List Call → Type 0 where
  -- a plan that has stopped reads nothing, and ends as it says
  at_stop : {end : End} {left : List Call} → Reads script (planned (stop end)) end left left
  -- a plan that asks for an operation reads its call, with some reply; then the drain, where one follows; then the plan for that reply,
  -- which says how it ends
  asked : {asks : Op} {next : Reply → Plan} {reply : Reply} {end quiet : End} {calls mid left : List Call} →
      Reads script (drained (stirs asks reply)) quiet calls mid → Reads script (planned (next reply)) end mid left →
      Reads script (planned (ask asks next)) end (call asks reply ∷ calls) left
  -- a plan that runs a section reads the section's statements, before which no variable holds anything; then the plan for whether they
  -- failed, which says how it ends
  ran : {row : ℕ} {owner : BundleId} {which : Section} {next : Bool → Plan} {end inner : End} {calls mid left : List Call} →
      Reads script (statements owner [] (script row which)) inner calls mid → Reads script (planned (next (has_failed inner))) end mid left →
      Reads script (planned (run row owner which next)) end calls left
  -- where no drain follows, nothing is read
  calm : {left : List Call} → Reads script (drained false) done left left
  -- a drain reads a Hand whose reply ends it,
  empty : {reply : Reply} {left : List Call} → ends_drain reply ≡ true → Reads script (drained true) done (call Hand reply ∷ left) left
  -- or a Hand that hands an event to a listener; then the statements of its section, before which `event` holds the event's service, if
  -- it has one; then the EndHand of that listener, with some reply; then the rest of the drain. How the section ended does not count
  handed : {listener : ListenerId} {kind : Kind} {owner : BundleId} {row : ℕ} {name : List ℕ} {event : Event} {reply : Reply} {end quiet : End} {calls mid left : List Call} →
      Reads script (statements owner (event_bindings event) (script row (section.On name))) end calls (call (EndHand listener) reply ∷ mid) →
      Reads script (drained true) quiet mid left →
      Reads script (drained true) done (call Hand (Handed listener kind owner row name event) ∷ calls) left
  -- where no statement is left, nothing is read
  over : {owner : BundleId} {bindings : List Binding} {left : List Call} → Reads script (statements owner bindings []) done left left
  -- else the plan of the first one is read: where it ends as refused or failed, the section ends there, as failed;
  fails : {owner : BundleId} {bindings : List Binding} {s : Statement} {more : List Statement} {end : End} {calls left : List Call} →
      Reads script (planned (plan owner (command_of owner bindings s))) end calls left → has_failed end ≡ true →
      Reads script (statements owner bindings (s ∷ more)) failed calls left
  -- where it ends otherwise, the other statements are read, before which the variable that the first one binds holds what it came to
  goes : {owner : BundleId} {bindings : List Binding} {s : Statement} {more : List Statement} {end inner : End} {calls mid left : List Call} →
      Reads script (planned (plan owner (command_of owner bindings s))) inner calls mid → has_failed inner ≡ false →
      Reads script (statements owner (bind (bound_by s) inner bindings) more) end mid left →
      Reads script (statements owner bindings (s ∷ more)) end calls left
  -- the jobs read a TakeJob whose reply ends them,
  none : {reply : Reply} {left : List Call} → ends_jobs reply ≡ true → Reads script taking done (call TakeJob reply ∷ left) left
  -- or a TakeJob that takes one; then the statements of its section; then the EndJob, with some reply; then the jobs after it. How the
  -- section ended does not count
  took : {owner : BundleId} {row : ℕ} {name : List ℕ} {reply : Reply} {end quiet : End} {calls mid left : List Call} →
      Reads script (statements owner [] (script row (section.Job name))) end calls (call EndJob reply ∷ mid) →
      Reads script taking quiet mid left →
      Reads script taking done (call TakeJob (Job owner row name) ∷ calls) left

-- the calls are a whole run of the console's command: its plan, then the jobs up to none
pub record Follows (script : Sections) (command : Command) (calls : List Call) : Type 0 where
  pub end : End
  pub mid : List Call
  pub plan : Reads script (planned (plan system command)) end calls mid
  pub jobs : Reads script taking done mid []

-- they are the beginning of such a run, and something of it is missing
abbrev pub IsCutOf : (List Call → Type 0) → List Call → Type 0
IsCutOf IsRun calls = (missing : List Call) × (missing ≢ []) × IsRun (calls ++ missing)

-- they are the beginning of one whose next step is a Hand, and that Hand refused since enough was handed
abbrev pub IsSpentOf : (List Call → Type 0) → List Call → Type 0
IsSpentOf IsRun calls =
    (first : List Call) × (reply : Reply) × (missing : List Call) ×
    (calls ≡ first ++ call Hand (Refused HandingsSpent) ∷ []) × IsRun (first ++ call Hand reply ∷ missing)

abbrev pub IsCutRun : Sections → Command → List Call → Type 0
IsCutRun script command calls = IsCutOf (Follows script command) calls

abbrev pub IsSpentRun : Sections → Command → List Call → Type 0
IsSpentRun script command calls = IsSpentOf (Follows script command) calls

-- they are a drain
abbrev pub IsDrain : Sections → List Call → Type 0
IsDrain script calls = Reads script (drained true) done calls []
