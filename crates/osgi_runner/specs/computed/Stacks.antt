-- What holds of the frames of a runner.
use Rattle.std.specs.Prelude.{◌≡◌, List, [], ◌∷◌, Option, None, Some}
use Rattle.osgi_lifecycle.specs.Pendings.{pending_of}
use Rattle.osgi_ops.specs.declared.op.Op.{Op}
use Rattle.osgi_ops.specs.declared.op.Op.TheVariants as op
use Rattle.osgi_ops.specs.declared.reply.Reply.{Reply}
use Rattle.osgi_ops.specs.declared.reply.Reply.TheVariants as answer
use Rattle.osgi_session.specs.Plans.{stirs}
use Rattle.osgi_session.specs.Steps.{Pending, asking, draining, within}
use Rattle.osgi_runner.specs.declared.frames.Frame.{Frame}
use Rattle.osgi_runner.specs.declared.frames.Frame.TheVariants as frame
use Rattle.osgi_runner.specs.declared.frames.Now.{Now}
use Rattle.osgi_runner.specs.declared.frames.Now.TheVariants as now
use Rattle.osgi_runner.specs.declared.frames.Opening.{Opening}
use Rattle.osgi_runner.specs.declared.frames.Opening.TheVariants as opening
use Rattle.osgi_runner.specs.declared.frames.Step.{Step}
use Rattle.osgi_runner.specs.declared.frames.Step.TheVariants as step
use Rattle.osgi_runner.specs.declared.frames.Wait.{Wait}
use Rattle.osgi_runner.specs.declared.frames.Wait.TheVariants as wait

abbrev pub HasSome : List Frame → Type 0
HasSome [] = ⊥
HasSome (f ∷ outer) = Unit {0}

abbrev pub IsDraining : Pending → Type 0
IsDraining (draining p) = Unit {0}
IsDraining pending = ⊥

abbrev pub IsWithin : Pending → Type 0
IsWithin (within next) = Unit {0}
IsWithin pending = ⊥

abbrev pub IsWaiting : Pending → Op → Type 0
IsWaiting (asking drains next) o = drains ≡ stirs o
IsWaiting pending o = ⊥

-- a plan waits for what was begun in it; the outermost frame is the end of a hand or of a job, or the jobs after a line
abbrev pub Fits : Frame → List Frame → Type 0
Fits (frame.Drained plan) outer = IsDraining (pending_of plan) × HasSome outer
Fits (frame.Ran plan) outer = IsWithin (pending_of plan) × HasSome outer
Fits (frame.Statement s r) outer = HasSome outer
Fits (frame.Hand listener) outer = Unit {0}
Fits frame.Job outer = Unit {0}
Fits frame.Jobs outer = Unit {0}

-- of frames, the innermost first
abbrev pub AllFit : List Frame → Type 0
AllFit [] = Unit {0}
AllFit (f ∷ outer) = Fits f outer × AllFit outer

-- the operation is the one that waits for its reply
abbrev pub IsAsked : Op → Wait → List Frame → Type 0
IsAsked o (wait.Plan plan) outer = IsWaiting (pending_of plan) o × HasSome outer
IsAsked o wait.Drain outer = o ≡ op.Hand
IsAsked o (wait.Hand listener) outer = o ≡ op.EndHand listener
IsAsked o wait.Jobs outer = o ≡ op.TakeJob
IsAsked o wait.Job outer = o ≡ op.EndJob

abbrev pub IsAskedIn : Option (Op × Wait) → List Frame → Type 0
IsAskedIn (Some asked) outer = IsAsked asked.0 asked.1 outer
IsAskedIn None outer = Unit {0}

-- the reply says which section begins
abbrev pub SaysSection : Reply → Type 0
SaysSection (answer.Handed listener kind owner row name event) = Unit {0}
SaysSection (answer.Job owner row name) = Unit {0}
SaysSection reply = ⊥

abbrev pub CanOpen : Opening → Type 0
CanOpen (opening.ByPlan row owner which) = Unit {0}
CanOpen (opening.ByReply reply) = SaysSection reply

abbrev pub CanGo : Now → List Frame → Type 0
CanGo (now.Open o) outer = CanOpen o × HasSome outer
CanGo (now.Run r) outer = HasSome outer
CanGo (now.Back outcome) outer = Unit {0}

abbrev pub CanStep : Step → List Frame → Type 0
CanStep (step.Ask o w) outer = IsAsked o w outer
CanStep (step.Go n) outer = CanGo n outer
CanStep step.Over outer = outer ≡ []
