-- How far a runner came, and which calls are left to make.
use Rattle.std.specs.Prelude.{◌≡◌, ◌≢◌, ℕ, Bool, true, false, List, [], ◌∷◌, Option, None, Some, map, reverse}
use Rattle.osgi_base.specs.declared.ids.BundleId.{BundleId}
use Rattle.osgi_base.specs.declared.ids.ListenerId.{ListenerId}
use Rattle.osgi_base.specs.declared.ids.ServiceId.{ServiceId}
use Rattle.osgi_lifecycle.specs.Pendings.{pending_of}
use Rattle.osgi_ops.specs.declared.event.Event.{Event}
use Rattle.osgi_ops.specs.declared.event.Event.TheVariants as event
use Rattle.osgi_ops.specs.declared.op.Op.{Op}
use Rattle.osgi_ops.specs.declared.reply.Reply.{Reply}
use Rattle.osgi_ops.specs.declared.reply.Reply.TheVariants as answer
use Rattle.osgi_ops.specs.declared.section.Section.TheVariants as section
use Rattle.osgi_session.specs.declared.statement.Statement.{Statement}
use Rattle.osgi_runs.specs.Courses.{Ahead, Left, to_caller, to_hand, to_job, to_jobs, to_plan, to_section}
use Rattle.osgi_runs.specs.Courses as course
use Rattle.osgi_session.specs.Plans.{End, done, bound, failed, refused, Plan, ask, stop}
use Rattle.osgi_session.specs.Runs.{Call, drained, event_word, has_failed, planned, Sections, statements, taking}
use Rattle.osgi_session.specs.Runs as runs
use Rattle.osgi_session.specs.Steps.{Pending, asking, draining, within, Next, do_op, do_drain, do_section, at_end}
use Rattle.osgi_session.specs.Steps as steps
use Rattle.osgi_runner.specs.declared.frames.Frame.{Frame}
use Rattle.osgi_runner.specs.declared.frames.Frame.TheVariants as frame
use Rattle.osgi_runner.specs.declared.frames.Now.{Now}
use Rattle.osgi_runner.specs.declared.frames.Now.TheVariants as now
use Rattle.osgi_runner.specs.declared.frames.Opening.{Opening}
use Rattle.osgi_runner.specs.declared.frames.Opening.TheVariants as opening
use Rattle.osgi_runner.specs.declared.frames.Outcome.{Outcome}
use Rattle.osgi_runner.specs.declared.frames.Running.{Running}
use Rattle.osgi_runner.specs.declared.frames.Step.{Step}
use Rattle.osgi_runner.specs.declared.frames.Step.TheVariants as step
use Rattle.osgi_runner.specs.declared.frames.Wait.{Wait}
use Rattle.osgi_runner.specs.declared.frames.Wait.TheVariants as wait
use Rattle.osgi_runner.specs.declared.statements.Binding.{Binding}

-- ---- what the data stands for

abbrev pub binding_of : Binding → runs.Binding
binding_of b = record { var = b.var; service = b.service }

-- the latest first
abbrev pub bindings_of : List Binding → List runs.Binding
bindings_of bindings = map binding_of (reverse bindings)

-- the service that an event is of
abbrev pub service_of : Event → Option ServiceId
service_of (event.Service code service) = Some service
service_of _ = None

abbrev pub handed_to : Reply → Option ListenerId
handed_to (answer.Handed listener kind owner row name event) = Some listener
handed_to _ = None

abbrev pub is_job : Reply → Bool
is_job (answer.Job owner row name) = true
is_job _ = false

-- what the variables hold where a section begins
abbrev pub first_bindings : Option ServiceId → List runs.Binding
first_bindings None = []
first_bindings (Some service) = record { var = event_word; service = service } ∷ []

-- the plan that waits for the reply to this operation
abbrev pub asked_of : Op → Pending → Plan
asked_of o (asking drains next) = ask o next
asked_of o pending = stop refused

-- the plan that is left after a drain
abbrev pub left_of : Pending → Plan
left_of (draining p) = p
left_of pending = stop refused

abbrev pub after_section : Pending → Bool → Plan
after_section (within next) fails = next fails
after_section pending fails = stop refused

abbrev pub frame_of : Frame → course.Frame
frame_of (frame.Drained plan) = to_plan (left_of (pending_of plan))
frame_of (frame.Ran plan) = to_caller (after_section (pending_of plan))
frame_of (frame.Statement s r) = to_section r.owner (bindings_of r.bindings.items) s.now r.left.now
frame_of (frame.Hand listener) = to_hand listener
frame_of frame.Job = to_job
frame_of frame.Jobs = to_jobs

-- the frames of a stack, the innermost first
abbrev pub frames_of : List Frame → List course.Frame
frames_of stack = map frame_of (reverse stack)

abbrev pub end_by : Bool → Option ServiceId → End
end_by true found = failed
end_by false None = done
end_by false (Some service) = bound (Some service)

abbrev pub end_of : Outcome → End
end_of outcome = end_by outcome.failed outcome.bound

-- ---- what is left of a runner

-- the section that the reply says
abbrev pub RestBy : Sections → Reply → List course.Frame → List Call → Type 0
RestBy script (answer.Handed listener kind owner row name event) outer calls =
    Ahead script (statements owner (runs.event_bindings event) (script row (section.On name))) outer calls
RestBy script (answer.Job owner row name) outer calls = Ahead script (statements owner [] (script row (section.Job name))) outer calls
RestBy script reply outer calls = ⊥

abbrev pub RestOpen : Sections → Opening → List course.Frame → List Call → Type 0
RestOpen script (opening.ByPlan row owner which) outer calls = Ahead script (statements owner [] (script row which)) outer calls
RestOpen script (opening.ByReply reply) outer calls = RestBy script reply outer calls

abbrev pub Rest : Sections → Now → List course.Frame → List Call → Type 0
Rest script (now.Open o) outer calls = RestOpen script o outer calls
Rest script (now.Run r) outer calls = Ahead script (statements r.owner (bindings_of r.bindings.items) r.left.now) outer calls
Rest script (now.Back outcome) outer calls = Left script outer (end_of outcome) calls

-- where the reply to the operation is waited for
abbrev pub Waited : Sections → Op → Wait → List course.Frame → List Call → Type 0
Waited script o (wait.Plan plan) outer calls = Ahead script (planned (asked_of o (pending_of plan))) outer calls
Waited script o wait.Drain outer calls = Ahead script (drained true) outer calls
Waited script o (wait.Hand listener) outer calls = Left script (to_hand listener ∷ outer) done calls
Waited script o wait.Jobs outer calls = Ahead script taking outer calls
Waited script o wait.Job outer calls = Left script (to_job ∷ outer) done calls

abbrev pub After : Sections → Step → List course.Frame → List Call → Type 0
After script (step.Ask o w) outer calls = Waited script o w outer calls
After script (step.Go n) outer calls = Rest script n outer calls
After script step.Over outer calls = (outer ≡ []) × (calls ≡ [])

-- where a plan comes to this step, and this is left of it then
abbrev pub ComesTo : Sections → Next → Pending → List course.Frame → List Call → Type 0
ComesTo script (do_op o) pending outer calls = Ahead script (planned (asked_of o pending)) outer calls
ComesTo script do_drain pending outer calls = Ahead script (drained true) (to_plan (left_of pending) ∷ outer) calls
ComesTo script (do_section row owner which) pending outer calls = Ahead script (statements owner [] (script row which)) (to_caller (after_section pending) ∷ outer) calls
ComesTo script (at_end end) pending outer calls = Left script outer end calls

abbrev pub Comes : Sections → steps.Step → List course.Frame → List Call → Type 0
Comes script s outer calls = ComesTo script s.next s.pending outer calls

-- ---- up to an operation that is asked, or to the end

abbrev pub Reaches : Sections → Option (Op × Wait) → List course.Frame → Step → List course.Frame → Type 0
Reaches script (Some asked) after s before = (calls : List Call) → Waited script asked.0 asked.1 after calls → After script s before calls
Reaches script None after s before = After script s before []

-- something is left to call
abbrev pub IsUnfinished : Sections → Step → List course.Frame → Type 0
IsUnfinished script s outer = (calls : List Call) × (calls ≢ []) × After script s outer calls

-- ---- what a statement makes of its section

abbrev pub EndsAs : End → End → Type 0
EndsAs one other = (has_failed one ≡ has_failed other) × ((var : Option (List ℕ)) (bindings : List runs.Binding) → runs.bind var one bindings ≡ runs.bind var other bindings)

-- ---- how a section begins

pub record IsRunning (r : Running) (for_bundle : BundleId) (held : List runs.Binding) (body : List Statement) : Type 0 where
  pub owner : r.owner ≡ for_bundle
  pub bindings : bindings_of r.bindings.items ≡ held
  pub left : r.left.now ≡ body

-- where the section that the reply says begins, so much is left of it
abbrev pub OpensBy : Sections → Reply → Running → Type 0
OpensBy script (answer.Handed listener kind owner row name event) r = IsRunning r owner (first_bindings (service_of event)) (script row (section.On name))
OpensBy script (answer.Job owner row name) r = IsRunning r owner [] (script row (section.Job name))
OpensBy script reply r = Unit {0}

abbrev pub Opens : Sections → Opening → Running → Type 0
Opens script (opening.ByPlan row owner which) r = IsRunning r owner [] (script row which)
Opens script (opening.ByReply reply) r = OpensBy script reply r
