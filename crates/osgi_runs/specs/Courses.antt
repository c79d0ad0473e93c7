-- How far a runner came with a command: what it is at, what it comes back to after that, and which calls are left to make.
use Rattle.std.specs.Prelude.{◌≡◌, Bool, true, false, List, [], ◌∷◌}
use Rattle.osgi_base.specs.declared.ids.BundleId.{BundleId}
use Rattle.osgi_base.specs.declared.ids.ListenerId.{ListenerId}
use Rattle.osgi_session.specs.Plans.{End, done, failed, Plan}
use Rattle.osgi_session.specs.Runs.{bind, Binding, bound_by, Call, call, drained, has_failed, taking, planned, Reads, Sections, statements, Task}
use Rattle.osgi_session.specs.declared.statement.Statement.{Statement}
use Rattle.osgi_ops.specs.declared.op.Op.TheVariants.{EndHand, EndJob}
use Rattle.osgi_ops.specs.declared.reply.Reply.{Reply}

-- what a runner comes back to
pub data Frame : Type 0 where
  -- a plan, after the drain behind its last reply
  to_plan : Plan → Frame
  -- a plan that ran a section
  to_caller : (Bool → Plan) → Frame
  -- the statements after one that ran
  to_section : BundleId → List Binding → Statement → List Statement → Frame
  -- the end of a hand, and the drain that goes on
  to_hand : ListenerId → Frame
  -- the end of a job, and the next job
  to_job : Frame
  -- the jobs, after the plan of a line
  to_jobs : Frame

abbrev pub OnFailed : Bool → Type 0 → Type 0 → Type 0
OnFailed true A B = A
OnFailed false A B = B

-- where what ran ended so, these calls are left
abbrev pub Left : Sections → List Frame → End → List Call → Type 0
Left script [] end calls = calls ≡ []
Left script (to_plan p ∷ outer) end calls = (after : End) × (mid : List Call) × Reads script (planned p) after calls mid × Left script outer after mid
Left script (to_caller next ∷ outer) end calls = (after : End) × (mid : List Call) × Reads script (planned (next (has_failed end))) after calls mid × Left script outer after mid
Left script (to_section owner bindings s more ∷ outer) end calls =
    OnFailed (has_failed end) (Left script outer failed calls)
    ((after : End) × (mid : List Call) × Reads script (statements owner (bind (bound_by s) end bindings) more) after calls mid × Left script outer after mid)
Left script (to_hand listener ∷ outer) end calls =
    (reply : Reply) × (rest : List Call) × (mid : List Call) × (calls ≡ call (EndHand listener) reply ∷ rest) × Reads script (drained true) done rest mid × Left script outer done mid
Left script (to_job ∷ outer) end calls =
    (reply : Reply) × (rest : List Call) × (mid : List Call) × (calls ≡ call EndJob reply ∷ rest) × Reads script taking done rest mid × Left script outer done mid
Left script (to_jobs ∷ outer) end calls = (mid : List Call) × Reads script taking done calls mid × Left script outer done mid

-- a task is to be done, and then what the frames say
pub record Ahead (script : Sections) (t : Task) (outer : List Frame) (calls : List Call) : Type 0 where
  pub end : End
  pub mid : List Call
  pub reads : Reads script t end calls mid
  pub left : Left script outer end mid
