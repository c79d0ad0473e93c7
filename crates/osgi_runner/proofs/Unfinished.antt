-- What is left of a runner that is not over: some calls.
use Rattle.std.proofs.Common.{◌≡◌, ◌≢◌, List, [], ◌∷◌, Bool, true, false, sym, ◌∙◌, subst, map, reverse}
use Rattle.osgi_lifecycle.specs.Pendings.{pending_of}
use Rattle.osgi_ops.specs.declared.op.Op.{Op}
use Rattle.osgi_ops.specs.declared.op.Op.TheVariants as op
use Rattle.osgi_ops.specs.declared.reply.Reply.{Reply}
use Rattle.osgi_ops.specs.declared.reply.Reply.TheVariants as answer
use Rattle.osgi_runner.specs.Calls.{says_cut, says_spent}
use Rattle.osgi_runner.proofs.Loops.{not-spent}
use Rattle.osgi_runner.specs.computed.Stacks.{AllFit, CanGo, HasSome, IsAsked, IsWaiting, SaysSection}
use Rattle.osgi_runner.specs.computed.States.{asked_of, bindings_of, end_of, frame_of, frames_of, IsUnfinished, Waited}
use Rattle.osgi_runner.specs.declared.frames.Frame.{Frame}
use Rattle.osgi_runner.specs.declared.frames.Frame.TheVariants as frame
use Rattle.osgi_runner.specs.declared.frames.Now.{Now}
use Rattle.osgi_runner.specs.declared.frames.Now.TheVariants as now
use Rattle.osgi_runner.specs.declared.frames.Opening.TheVariants as opening
use Rattle.osgi_runner.specs.declared.frames.Step.TheVariants as step
use Rattle.osgi_runner.specs.declared.frames.Wait.{Wait}
use Rattle.osgi_runner.specs.declared.frames.Wait.TheVariants as wait
use Rattle.osgi_ops.specs.Bundles.{system}
use Rattle.osgi_runs.proofs.Courses.{command-run, some-ahead, some-left}
use Rattle.std.specs.Prelude.{Err, IfOk, Ok, OnErr, Result}
use Rattle.osgi_session.specs.declared.command.Command.{Command}
use Rattle.osgi_runs.proofs.Plans.{drain-done, IsDone, jobs-done, plan-done, statements-done}
use Rattle.osgi_runs.proofs.Runs.{back}
use Rattle.osgi_runs.specs.Courses.{Ahead, Left, OnFailed, to_hand, to_job}
use Rattle.osgi_runs.specs.Courses as course
use Rattle.osgi_session.specs.Plans.{End, done, failed, Plan, ask, plan}
use Rattle.osgi_session.specs.Runs.{at_stop, asked, bind, bound_by, Call, call, calm, drained, empty, event_bindings, fails, Follows, goes, handed, has_failed, none, over, planned, ran, Reads, Sections, statements, taking, Task, took}
use Rattle.osgi_session.specs.Steps.{draining, ended, fresh, Pending, asking, within}
use Rattle.osgi_ops.specs.declared.section.Section.TheVariants as section

no_call : (c : Call) (more : List Call) → c ∷ more ≡ [] → ⊥
no_call c more e = cc e

-- where no call is left before a task, none is left after it
nothing-left : {script : Sections} {t : Task} {end : End} {calls left : List Call} → Reads script t end calls left → calls ≡ [] → left ≡ []
nothing-left at_stop e = e
nothing-left (asked {asks = o} {reply = y} {calls = c} d x) e = absurd (no_call (call o y) c e)
nothing-left (ran s x) e = nothing-left x (nothing-left s e)
nothing-left calm e = e
nothing-left (empty {reply = y} {left = l} h) e = absurd (no_call (call op.Hand y) l e)
nothing-left (handed {listener = k} {kind = kd} {owner = o} {row = w} {name = n} {event = v} {calls = c} s x) e = absurd (no_call (call op.Hand (answer.Handed k kd o w n v)) c e)
nothing-left over e = e
nothing-left (fails x f) e = nothing-left x e
nothing-left (goes x f y) e = nothing-left y (nothing-left x e)
nothing-left (none {reply = y} {left = l} h) e = absurd (no_call (call op.TakeJob y) l e)
nothing-left (took {owner = o} {row = w} {name = n} {calls = c} s x) e = absurd (no_call (call op.TakeJob (answer.Job o w n)) c e)

jobs-call : {script : Sections} {end : End} {calls left : List Call} → Reads script taking end calls left → calls ≡ [] → ⊥
jobs-call (none {reply = y} {left = l} h) e = no_call (call op.TakeJob y) l e
jobs-call (took {owner = o} {row = w} {name = n} {calls = c} s x) e = no_call (call op.TakeJob (answer.Job o w n)) c e

by-end : (b : Bool) (A B : Type 0) → OnFailed b A B → (A → ⊥) → (B → ⊥) → ⊥
by-end true A B x f g = f x
by-end false A B x f g = g x

-- a stack that is not empty has a call to make
owing : (script : Sections) (end : End) (calls : List Call) (stack : List Frame) → AllFit stack → HasSome stack → Left script (map frame_of stack) end calls → calls ≡ [] → ⊥
owing script end calls [] fit some l e = some
owing script end calls (frame.Drained plan ∷ outer) fit some l e = owing script l.0 l.1 outer fit.1 fit.0.1 l.3 (nothing-left l.2 e)
owing script end calls (frame.Ran plan ∷ outer) fit some l e = owing script l.0 l.1 outer fit.1 fit.0.1 l.3 (nothing-left l.2 e)
owing script end calls (frame.Statement s r ∷ outer) fit some l e =
    let outside = map frame_of outer in
    let held = bind (bound_by s.now) end (bindings_of r.bindings.items) in
    by-end (has_failed end) (Left script outside failed calls)
    ((after : End) × (mid : List Call) × Reads script (statements r.owner held r.left.now) after calls mid × Left script outside after mid) l
    (λ x. owing script failed calls outer fit.1 fit.0 x e) (λ x. owing script x.0 x.1 outer fit.1 fit.0 x.3 (nothing-left x.2 e))
owing script end calls (frame.Hand listener ∷ outer) fit some l e = no_call (call (op.EndHand listener) l.0) l.1 (sym l.3 ∙ e)
owing script end calls (frame.Job ∷ outer) fit some l e = no_call (call op.EndJob l.0) l.1 (sym l.3 ∙ e)
owing script end calls (frame.Jobs ∷ outer) fit some l e = jobs-call l.1 e

ahead-some : (script : Sections) (t : Task) (stack : List Frame) → AllFit stack → HasSome stack → IsDone script t → (calls : List Call) × (calls ≢ []) × Ahead script t (map frame_of stack) calls
ahead-some script t stack fit some d =
    let a = some-ahead t (map frame_of stack) d in (a.calls, (λ e. owing script a.is.end a.is.mid stack fit some a.is.left (nothing-left a.is.reads e)), a.is)

by-reply : (script : Sections) (y : Reply) (stack : List Frame) → AllFit stack → SaysSection y → HasSome stack → IsUnfinished script (step.Go (now.Open (opening.ByReply y))) (map frame_of stack)
by-reply script (answer.Handed listener kind owner row name event) stack fit can some =
    ahead-some script (statements owner (event_bindings event) (script row (section.On name))) stack fit some (statements-done owner (event_bindings event) (script row (section.On name)))
by-reply script (answer.Job owner row name) stack fit can some =
    ahead-some script (statements owner [] (script row (section.Job name))) stack fit some (statements-done owner [] (script row (section.Job name)))
by-reply script y stack fit can some = absurd can

-- between two operations, over a stack that is not empty
pub go-unfinished : (script : Sections) (n : Now) (stack : List Frame) → AllFit stack → CanGo n stack → HasSome stack → IsUnfinished script (step.Go n) (map frame_of stack)
go-unfinished script (now.Open (opening.ByPlan row owner which)) stack fit can some =
    ahead-some script (statements owner [] (script row which)) stack fit some (statements-done owner [] (script row which))
go-unfinished script (now.Open (opening.ByReply y)) stack fit can some = by-reply script y stack fit can.0 some
go-unfinished script (now.Run r) stack fit can some =
    ahead-some script (statements r.owner (bindings_of r.bindings.items) r.left.now) stack fit some (statements-done r.owner (bindings_of r.bindings.items) r.left.now)
go-unfinished script (now.Back o) stack fit can some =
    let l = some-left script (map frame_of stack) (end_of o) in (l.calls, (λ e. owing script (end_of o) l.calls stack fit some l.is e), l.is)

-- ---- an operation that is asked can have a reply

ask-reply : (script : Sections) (o : Op) (next : Reply → Plan) (outer : List course.Frame) → (reply : Reply) × (missing : List Call) × Ahead script (planned (ask o next)) outer (call o reply ∷ missing)
ask-reply script o next outer =
    let a = some-ahead (planned (ask o next)) outer (plan-done (ask o next)) in
    let b = back a.is.reads in (b.0, b.2, subst (λ l. Ahead script (planned (ask o next)) outer l) b.4 a.is)

plan-reply : (script : Sections) (pending : Pending) (o : Op) (outer : List course.Frame) → IsWaiting pending o →
    (reply : Reply) × (missing : List Call) × Ahead script (planned (asked_of o pending)) outer (call o reply ∷ missing)
plan-reply script (asking drains next) o outer is = ask-reply script o next outer
plan-reply script (fresh p) o outer is = absurd is
plan-reply script (draining p) o outer is = absurd is
plan-reply script (within next) o outer is = absurd is
plan-reply script ended o outer is = absurd is

pub asked-reply : (script : Sections) (o : Op) (w : Wait) (stack : List Frame) → IsAsked o w stack →
    (reply : Reply) × (missing : List Call) × Waited script o w (map frame_of stack) (call o reply ∷ missing)
asked-reply script o (wait.Plan p) stack is = plan-reply script (pending_of p) o (map frame_of stack) is.0
asked-reply script o wait.Drain stack is =
    let a = some-ahead (drained true) (map frame_of stack) (drain-done {script = script} true) in
    let b = back a.is.reads in
    (b.0, b.1, subst (λ k. Ahead script (drained true) (map frame_of stack) (call k b.0 ∷ b.1)) (sym is) (subst (λ l. Ahead script (drained true) (map frame_of stack) l) b.2 a.is))
asked-reply script o (wait.Hand listener) stack is =
    let l = some-left script (to_hand listener ∷ map frame_of stack) done in
    let b = l.is in
    (b.0, b.1, subst (λ k. Left script (to_hand listener ∷ map frame_of stack) done (call k b.0 ∷ b.1)) (sym is) (subst (λ k. Left script (to_hand listener ∷ map frame_of stack) done k) b.3 b))
asked-reply script o wait.Jobs stack is =
    let a = some-ahead taking (map frame_of stack) (jobs-done {script = script}) in
    let b = back a.is.reads in
    (b.0, b.1, subst (λ k. Ahead script taking (map frame_of stack) (call k b.0 ∷ b.1)) (sym is) (subst (λ l. Ahead script taking (map frame_of stack) l) b.2 a.is))
asked-reply script o wait.Job stack is =
    let l = some-left script (to_job ∷ map frame_of stack) done in
    let b = l.is in
    (b.0, b.1, subst (λ k. Left script (to_job ∷ map frame_of stack) done (call k b.0 ∷ b.1)) (sym is) (subst (λ k. Left script (to_job ∷ map frame_of stack) done k) b.3 b))

-- every command of the console has a run
pub some-run : (script : Sections) (c : Command) → (calls : List Call) × (calls ≢ []) × Follows script c calls
some-run script c =
    let a = ahead-some script (planned (plan system c)) (frame.Jobs ∷ []) (tt, tt) tt (plan-done (plan system c)) in (a.0, a.1, command-run c a.0 a.2)

pub reply-leaves : (script : Sections) (o : Op) (w : Wait) (stack : List Frame) (IsLeft : List Call → Type 0) → IsAsked o w stack →
    ((calls : List Call) → Waited script o w (map frame_of stack) calls → IsLeft calls) → (reply : Reply) × (missing : List Call) × IsLeft (call o reply ∷ missing)
reply-leaves script o w stack IsLeft is reaches = let r = asked-reply script o w stack is in (r.0, r.1, reaches (call o r.0 ∷ r.1) r.2)

pub on-err : {A E P : Type 0} (r : Result A E) → P → OnErr r P
on-err (Ok x) p = tt
on-err (Err e) p = p

pub if-ok : {A E : Type 0} (P Q : A → Type 0) (r : Result A E) → ((x : A) → P x → Q x) → IfOk r P → IfOk r Q
if-ok P Q (Ok x) f p = f x p
if-ok P Q (Err e) f p = tt

-- what is left after a reply, with the frames as they were where the operation was asked
pub after-reply : (script : Sections) (here kept : List Frame) (o : Op) (w : Wait) (y : Reply) (IsNext : List Call → Type 0) → kept ≡ here → IsAsked o w (reverse here) →
    ((calls : List Call) → IsAsked o w (reverse kept) → IsNext calls → says_spent y ≡ false → Waited script o w (frames_of kept) (call o y ∷ calls)) → says_cut y ≡ false →
    (calls : List Call) → IsNext calls → Waited script o w (frames_of here) (call o y ∷ calls)
after-reply script here kept o w y IsNext e is on c calls next =
    subst (λ (l : List Frame). Waited script o w (frames_of l) (call o y ∷ calls)) e (on calls (subst (λ (l : List Frame). IsAsked o w (reverse l)) (sym e) is) next (not-spent y c))
