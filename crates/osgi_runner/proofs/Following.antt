-- Each step of a runner keeps what is ahead of it.
use Rattle.std.proofs.Common.{◌≡◌, ◌≤◌, ◌+◌, ℕ, List, [], ◌∷◌, ◌++◌, Bool, true, false, refl, sym, ap, ◌∙◌, subst, reverse, map, arith, length, Bor}
use Rattle.std.proofs.lemmas.List.{reverse-append}
use Rattle.std.specs.Prelude.{Option, None, Some}
use Rattle.osgi_base.specs.declared.ids.ListenerId.{ListenerId}
use Rattle.osgi_base.specs.declared.ids.ServiceId.{ServiceId}
use Rattle.osgi_lifecycle.specs.Pendings.{IsEnd, IsNext, pending_of}
use Rattle.osgi_lifecycle.specs.declared.next.Next.TheVariants as told
use Rattle.osgi_ops.specs.declared.op.Op.{Op}
use Rattle.osgi_ops.specs.declared.reply.Reply.{Reply}
use Rattle.osgi_runner.specs.computed.Stacks.{IsDraining, IsWaiting, IsWithin}
use Rattle.osgi_runner.specs.computed.States.{after_section, asked_of, bindings_of, Comes, ComesTo, end_by, end_of, EndsAs, frame_of, frames_of, handed_to, is_job, left_of, RestBy}
use Rattle.osgi_runner.specs.computed.Weights.{frame_weight, IsLighter, plan_weight, section_weight, step_weight}
use Rattle.osgi_lifecycle.specs.declared.plan.Plan as code
use Rattle.osgi_ops.specs.Bundles.{system}
use Rattle.osgi_ops.specs.declared.op.Op.TheVariants as op
use Rattle.osgi_ops.specs.declared.refusal.Refusal.TheVariants.{HandingsSpent}
use Rattle.osgi_ops.specs.declared.reply.Reply.TheVariants as answer
use Rattle.osgi_runner.specs.Calls.{says_spent}
use Rattle.osgi_runner.specs.declared.frames.Frame.{Frame}
use Rattle.osgi_runner.specs.declared.frames.Frame.TheVariants as frame
use Rattle.osgi_runner.specs.declared.frames.Running.{Running}
use Rattle.osgi_runner.specs.declared.statements.Binding as held
use Rattle.osgi_runner.specs.declared.frames.Outcome.{Outcome}
use Rattle.osgi_runner.specs.declared.frames.Step.{Step}
use Rattle.osgi_runner.specs.declared.frames.Step.TheVariants as step
use Rattle.osgi_runs.proofs.Courses.{back-to-caller, back-to-plan, command-run, drain-hands, job-taken, no-drain, plan-asked, plan-ended, plan-runs, section-goes}
use Rattle.osgi_runs.specs.Courses.{Ahead, Left, OnFailed, to_caller, to_hand, to_job, to_jobs, to_plan, to_section}
use Rattle.osgi_runs.specs.Courses as course
use Rattle.osgi_session.specs.Plans.{End, done, failed, Plan, ask, plan, run, stop, stirs}
use Rattle.osgi_session.specs.Runs.{bind, Binding, bound_by, Call, call, command_of, drained, ends_drain, ends_jobs, Follows, has_failed, planned, Reads, Sections, statements, taking}
use Rattle.osgi_session.specs.declared.command.Command.{Command}
use Rattle.osgi_session.specs.Steps.{at_end, begin, do_drain, do_op, do_section, drained_first, drained_out, draining, ended, first_step, fresh, left_section, Next, Pending, replied, resume, asking, within}
use Rattle.osgi_session.specs.declared.statement.Statement.{Statement}

-- the last item is the innermost frame
pub top : (items more : List Frame) (f : Frame) → more ≡ items ++ f ∷ [] → reverse more ≡ f ∷ reverse items
top items more f e = ap reverse e ∙ reverse-append items (f ∷ [])

-- ---- where what ran ended alike, so much is left

pub same-left : (script : Sections) (calls : List Call) (one other : End) (outer : List course.Frame) → EndsAs one other → Left script outer one calls → Left script outer other calls
same-left script calls one other [] e l = l
same-left script calls one other (to_plan p ∷ outer) e l = l
same-left script calls one other (to_caller next ∷ outer) e l =
    subst (λ b. (after : End) × (mid : List Call) × Reads script (planned (next b)) after calls mid × Left script outer after mid) e.0 l
same-left script calls one other (to_section owner bindings s more ∷ outer) e l =
    let Goes : List Binding → Type 0 = λ held. (after : End) × (mid : List Call) × Reads script (statements owner held more) after calls mid × Left script outer after mid in
    subst (λ held. OnFailed (has_failed other) (Left script outer failed calls) (Goes held)) (e.1 (bound_by s) bindings)
    (subst (λ b. OnFailed b (Left script outer failed calls) (Goes (bind (bound_by s) one bindings))) e.0 l)
same-left script calls one other (to_hand listener ∷ outer) e l = l
same-left script calls one other (to_job ∷ outer) e l = l
same-left script calls one other (to_jobs ∷ outer) e l = l

-- ---- where a plan comes to what the code was told

pub comes-end : (script : Sections) (outer : List course.Frame) (calls : List Call) (n : Next) (pending : Pending) (r f : Bool) (b : Option ServiceId) (outcome : Outcome) →
    ((end : End) → IsEnd end r f b → EndsAs (end_of outcome) end) → IsNext (told.End r f b) n → Left script outer (end_of outcome) calls → ComesTo script n pending outer calls
comes-end script outer calls (at_end end) pending r f b outcome ends e l = same-left script calls (end_of outcome) end outer (ends end e) l
comes-end script outer calls (do_op x) pending r f b outcome ends e l = absurd e
comes-end script outer calls do_drain pending r f b outcome ends e l = absurd e
comes-end script outer calls (do_section row owner which) pending r f b outcome ends e l = absurd e

-- ---- what a plan comes to was ahead of it

pub comes-first : {script : Sections} {outer : List course.Frame} {calls : List Call} (p : Plan) → Comes script (first_step p) outer calls → Ahead script (planned p) outer calls
comes-first (ask o next) a = a
comes-first (run row owner which next) a = plan-runs row owner which next a
comes-first (stop end) l = plan-ended l

pub comes-fresh : {script : Sections} {outer : List course.Frame} {calls : List Call} (pending : Pending) (p : Plan) → pending ≡ fresh p → Comes script (resume pending begin) outer calls →
    Ahead script (planned p) outer calls
comes-fresh {script} {outer} {calls} pending p e h = comes-first p (subst (λ k. Comes script (resume k begin) outer calls) e h)

comes-drained-first : {script : Sections} {outer : List course.Frame} {calls : List Call} (b : Bool) (p : Plan) → Comes script (drained_first b p) outer calls → Ahead script (drained b) (to_plan p ∷ outer) calls
comes-drained-first true p h = h
comes-drained-first false p h = no-drain (back-to-plan done p (comes-first p h))

pub comes-replied : {script : Sections} {outer : List course.Frame} {calls : List Call} (pending : Pending) (o : Op) (y : Reply) → IsWaiting pending o →
    Comes script (resume pending (replied y)) outer calls → Ahead script (planned (asked_of o pending)) outer (call o y ∷ calls)
comes-replied {script} {outer} {calls} (asking drains next) o y e h =
    plan-asked o next y (comes-drained-first (stirs o y) (next y) (subst (λ (d : Reply → Bool). Comes script (drained_first (d y) (next y)) outer calls) e h))
comes-replied (fresh p) o y e h = absurd e
comes-replied (draining p) o y e h = absurd e
comes-replied (within next) o y e h = absurd e
comes-replied ended o y e h = absurd e

pub comes-drained : (script : Sections) (outer : List course.Frame) (calls : List Call) (pending : Pending) (end : End) → IsDraining pending →
    Comes script (resume pending drained_out) outer calls → Left script (to_plan (left_of pending) ∷ outer) end calls
comes-drained script outer calls (draining p) end e h = back-to-plan end p (comes-first p h)
comes-drained script outer calls (asking drains next) end e h = absurd e
comes-drained script outer calls (fresh p) end e h = absurd e
comes-drained script outer calls (within next) end e h = absurd e
comes-drained script outer calls ended end e h = absurd e

pub comes-ran : (script : Sections) (outer : List course.Frame) (calls : List Call) (pending : Pending) (end : End) (b : Bool) → IsWithin pending → has_failed end ≡ b →
    Comes script (resume pending (left_section b)) outer calls → Left script (to_caller (after_section pending) ∷ outer) end calls
comes-ran script outer calls (within next) end b e is h = back-to-caller end next (subst (λ k. Ahead script (planned (next k)) outer calls) (sym is) (comes-first (next b) h))
comes-ran script outer calls (draining p) end b e is h = absurd e
comes-ran script outer calls (asking drains next) end b e is h = absurd e
comes-ran script outer calls (fresh p) end b e is h = absurd e
comes-ran script outer calls ended end b e is h = absurd e

-- ---- weights

pub first-weight : (p : Plan) → step_weight (first_step p) ≡ plan_weight p
first-weight (ask o next) = refl
first-weight (run row owner which next) = refl
first-weight (stop end) = refl

one-of-two : (next : Bool → Plan) (b : Bool) → step_weight (first_step (next b)) ≤ plan_weight (next true) + plan_weight (next false)
one-of-two next true = rw (first-weight (next true)) (omega arith)
one-of-two next false = rw (first-weight (next false)) (omega arith)

pub ran-weight : (pending : Pending) (b : Bool) → IsWithin pending → step_weight (resume pending (left_section b)) ≤ section_weight pending
ran-weight (within next) b e = one-of-two next b
ran-weight (draining p) b e = absurd e
ran-weight (asking drains next) b e = absurd e
ran-weight (fresh p) b e = absurd e
ran-weight ended b e = absurd e

pub still-lighter : (s : Step) (stack : List Frame) (most more : ℕ) → most ≤ more → IsLighter s stack most → IsLighter s stack more
still-lighter (step.Go n) stack most more le h = omega arith
still-lighter (step.Ask o w) stack most more le h = tt
still-lighter step.Over stack most more le h = tt

le-more : (x y w : ℕ) → x ≤ y → x + w ≤ 1 + y + w
le-more x y w le = omega arith

pub ran-lighter : (s : Step) (stack : List Frame) (f : Frame) (p : code.Plan) (b : Bool) (w : ℕ) → f ≡ frame.Ran p → IsWithin (pending_of p) →
    IsLighter s stack (step_weight (resume (pending_of p) (left_section b)) + w) → IsLighter s stack (1 + frame_weight f + w)
ran-lighter s stack f p b w e is h =
    subst (λ (k : Frame). IsLighter s stack (1 + frame_weight k + w)) (sym e)
    (still-lighter s stack (step_weight (resume (pending_of p) (left_section b)) + w) (1 + section_weight (pending_of p) + w)
    (le-more (step_weight (resume (pending_of p) (left_section b))) (section_weight (pending_of p)) w (ran-weight (pending_of p) b is)) h)

pub end-failed : (f : Bool) (found : Option ServiceId) → has_failed (end_by f found) ≡ f
end-failed true found = refl
end-failed false None = refl
end-failed false (Some service) = refl

-- ---- the statements of a section

pub none-left : (l : List Statement) → length l ≡ 0 → l ≡ []
none-left [] e = refl
none-left (s ∷ l) e = absurd (omega arith)

pub pushed : (old mid items : List Frame) (f : Frame) → mid ≡ old → items ≡ mid ++ f ∷ [] → frames_of items ≡ frame_of f ∷ frames_of old
pushed old mid items f same e = ap (map frame_of) (top mid items f e ∙ ap (λ l. f ∷ reverse l) same)

pub next-statement : (script : Sections) (old mid items : List Frame) (calls : List Call) (r : Running) (s : Bor Statement) (left : Bor (List Statement)) (p : code.Plan) (c : Command) (bindings : List held.Binding) →
    mid ≡ old → items ≡ mid ++ frame.Statement s (record r { left = left }) ∷ [] → r.left.now ≡ s.now ∷ left.now → bindings ≡ r.bindings.items → c ≡ command_of r.owner (bindings_of bindings) s.now →
    pending_of p ≡ fresh (plan r.owner c) → Comes script (resume (pending_of p) begin) (frames_of items) calls →
    Ahead script (statements r.owner (bindings_of r.bindings.items) r.left.now) (frames_of old) calls
next-statement script old mid items calls r s left p c bindings same e body kept is begun h =
    let held : List Binding = bindings_of r.bindings.items in
    let says : c ≡ command_of r.owner held s.now = is ∙ ap (λ l. command_of r.owner (bindings_of l) s.now) kept in
    let first : Ahead script (planned (plan r.owner c)) (frames_of items) calls = comes-fresh (pending_of p) (plan r.owner c) begun h in
    let outer = to_section r.owner held s.now left.now ∷ frames_of old in
    let there : Ahead script (planned (plan r.owner c)) outer calls =
    subst (λ l. Ahead script (planned (plan r.owner c)) l calls) (pushed old mid items (frame.Statement s (record r { left = left })) same e) first in
    subst (λ l. Ahead script (statements r.owner held l) (frames_of old) calls) (sym body)
    (section-goes r.owner held s.now left.now (subst (λ k. Ahead script (planned (plan r.owner k)) outer calls) says there))

-- ---- what replies say

pub drain-over : (y : Reply) → handed_to y ≡ None → says_spent y ≡ false → ends_drain y ≡ true
drain-over (answer.Handed listener kind owner row name event) e s = absurd (cc e)
drain-over (answer.Refused HandingsSpent) e s = absurd (cc s)
drain-over y e s = refl

pub jobs-over : (y : Reply) → is_job y ≡ false → ends_jobs y ≡ true
jobs-over (answer.Job owner row name) e = absurd (cc e)
jobs-over y e = refl

pub by-hand : (script : Sections) (outer : List course.Frame) (calls : List Call) (y : Reply) (to : ListenerId) → handed_to y ≡ Some to → RestBy script y (to_hand to ∷ outer) calls →
    Ahead script (drained true) outer (call op.Hand y ∷ calls)
by-hand script outer calls (answer.Handed listener kind owner row name event) to e h =
    let same : listener ≡ to = cc e in
    drain-hands listener kind owner row name event (subst (λ k. RestBy script (answer.Handed listener kind owner row name event) (to_hand k ∷ outer) calls) (sym same) h)
by-hand script outer calls y to e h = absurd (cc e)

pub by-job : (script : Sections) (outer : List course.Frame) (calls : List Call) (y : Reply) → is_job y ≡ true → RestBy script y (to_job ∷ outer) calls →
    Ahead script taking outer (call op.TakeJob y ∷ calls)
by-job script outer calls (answer.Job owner row name) e h = job-taken owner row name h
by-job script outer calls y e h = absurd (cc e)

-- ---- a whole command

pub first-follows : (script : Sections) (old mid items : List Frame) (calls : List Call) (p : code.Plan) (copied c : Command) → old ≡ [] → mid ≡ old → items ≡ mid ++ frame.Jobs ∷ [] → copied ≡ c →
    pending_of p ≡ fresh (plan system copied) → Comes script (resume (pending_of p) begin) (frames_of items) calls → Follows script c calls
first-follows script old mid items calls p copied c none same e is begun h =
    let first : Ahead script (planned (plan system copied)) (frames_of items) calls = comes-fresh (pending_of p) (plan system copied) begun h in
    let there : Ahead script (planned (plan system copied)) (to_jobs ∷ []) calls =
    subst (λ l. Ahead script (planned (plan system copied)) l calls) (pushed old mid items frame.Jobs same e ∙ ap (λ (l : List Frame). to_jobs ∷ frames_of l) none) first in
    command-run c calls (subst (λ k. Ahead script (planned (plan system k)) (to_jobs ∷ []) calls) is there)
