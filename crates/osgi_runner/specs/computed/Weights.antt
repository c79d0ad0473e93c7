-- Steps without a call end: each is lighter than the one before.
use Rattle.std.specs.Prelude.{ℕ, ◌+◌, ◌<◌, true, false, List, sum_by}
use Rattle.osgi_lifecycle.specs.Pendings.{pending_of}
use Rattle.osgi_session.specs.Plans.{Plan, ask, run, stop}
use Rattle.osgi_session.specs.Steps as steps
use Rattle.osgi_session.specs.Steps.{Next, do_op, do_drain, do_section, at_end, Pending}
use Rattle.osgi_runner.specs.computed.States.{after_section, left_of}
use Rattle.osgi_runner.specs.declared.frames.Frame.{Frame}
use Rattle.osgi_runner.specs.declared.frames.Frame.TheVariants as frame
use Rattle.osgi_runner.specs.declared.frames.Now.{Now}
use Rattle.osgi_runner.specs.declared.frames.Now.TheVariants as now
use Rattle.osgi_runner.specs.declared.frames.Step.{Step}
use Rattle.osgi_runner.specs.declared.frames.Step.TheVariants as step

-- how far a plan can go on without a call
abbrev pub plan_weight : Plan → ℕ
plan_weight (ask o next) = 0
plan_weight (run row owner which next) = plan_weight (next true) + plan_weight (next false) + 6
plan_weight (stop end) = 2

abbrev pub section_weight : Pending → ℕ
section_weight pending = plan_weight (after_section pending true) + plan_weight (after_section pending false)

abbrev pub next_weight : Next → Pending → ℕ
next_weight (do_op o) pending = 0
next_weight do_drain pending = 0
next_weight (do_section row owner which) pending = section_weight pending + 6
next_weight (at_end end) pending = 2

abbrev pub step_weight : steps.Step → ℕ
step_weight s = next_weight s.next s.pending

abbrev pub frame_weight : Frame → ℕ
frame_weight (frame.Drained plan) = plan_weight (left_of (pending_of plan))
frame_weight (frame.Ran plan) = section_weight (pending_of plan)
frame_weight (frame.Statement s r) = 2
frame_weight _ = 0

abbrev pub stack_weight : List Frame → ℕ
stack_weight stack = sum_by frame_weight stack

abbrev pub now_weight : Now → ℕ
now_weight (now.Open o) = 3
now_weight (now.Run r) = 2
now_weight (now.Back outcome) = 1

abbrev pub state_weight : Step → List Frame → ℕ
state_weight (step.Go n) stack = now_weight n + stack_weight stack
state_weight s stack = 0

abbrev pub IsLighter : Step → List Frame → ℕ → Type 0
IsLighter (step.Go n) stack most = now_weight n + stack_weight stack < most
IsLighter s stack most = Unit {0}
