-- A plan as a machine that is asked for its next step: what the runner's code keeps of a plan, and what it answers.
use Rattle.std.specs.Prelude.{ℕ, Bool, true, false, List, [], ◌∷◌}
use Rattle.osgi_base.specs.declared.ids.BundleId.{BundleId}
use Rattle.osgi_session.specs.Plans.{End, refused, Plan, ask, run, stop, stirs}
use Rattle.osgi_session.specs.Runs.{Call, call, drained, has_failed, Reads, Sections, statements}
use Rattle.osgi_ops.specs.declared.op.Op.{Op}
use Rattle.osgi_ops.specs.declared.reply.Reply.{Reply}
use Rattle.osgi_ops.specs.declared.section.Section.{Section}

-- how the step before came out
pub data Last : Type 0 where
  begin : Last
  replied : Reply → Last
  drained_out : Last
  left_section : Bool → Last

-- the next step
pub data Next : Type 0 where
  do_op : Op → Next
  do_drain : Next
  do_section : ℕ → BundleId → Section → Next
  at_end : End → Next

-- what is left of a plan between two steps: where it waits for a reply, whether a drain comes after the reply, and what comes then
pub data Pending : Type 0 where
  fresh : Plan → Pending
  asking : (Reply → Bool) → (Reply → Plan) → Pending
  draining : Plan → Pending
  within : (Bool → Plan) → Pending
  ended : Pending

pub record Step : Type 0 where
  pub next : Next
  pub pending : Pending

abbrev pub first_step : Plan → Step
first_step (ask o next) = record { next = do_op o; pending = asking (stirs o) next }
first_step (run row owner which next) = record { next = do_section row owner which; pending = within next }
first_step (stop end) = record { next = at_end end; pending = ended }

abbrev pub drained_first : Bool → Plan → Step
drained_first true p = record { next = do_drain; pending = draining p }
drained_first false p = first_step p

-- the step that comes next, where the last answers the step before
abbrev pub resume : Pending → Last → Step
resume (fresh p) begin = first_step p
resume (asking drains next) (replied reply) = drained_first (drains reply) (next reply)
resume (draining p) drained_out = first_step p
resume (within next) (left_section fails) = first_step (next fails)
resume _ _ = record { next = at_end refused; pending = ended }

-- a runner that does what it is told, step by step, and the calls that it made
pub data Obeys (script : Sections) : Step → End → List Call → List Call → Type 0 where
  ends : {end : End} {pending : Pending} {left : List Call} → Obeys script (record { next = at_end end; pending = pending }) end left left
  does : {o : Op} {pending : Pending} {reply : Reply} {end : End} {calls left : List Call} →
      Obeys script (resume pending (replied reply)) end calls left → Obeys script (record { next = do_op o; pending = pending }) end (call o reply ∷ calls) left
  drains : {pending : Pending} {quiet end : End} {calls mid left : List Call} → Reads script (drained true) quiet calls mid →
      Obeys script (resume pending drained_out) end mid left → Obeys script (record { next = do_drain; pending = pending }) end calls left
  enters : {row : ℕ} {owner : BundleId} {which : Section} {pending : Pending} {inner end : End} {calls mid left : List Call} →
      Reads script (statements owner [] (script row which)) inner calls mid → Obeys script (resume pending (left_section (has_failed inner))) end mid left →
      Obeys script (record { next = do_section row owner which; pending = pending }) end calls left
