-- Each step of a runner keeps what is ahead of it, and there is always something that can be.
use Rattle.std.proofs.Common.{◌≡◌, ℕ, List, [], ◌∷◌, ◌++◌, Bool, true, false, refl, sym, subst}
use Rattle.osgi_base.specs.declared.ids.BundleId.{BundleId}
use Rattle.osgi_base.specs.declared.ids.ListenerId.{ListenerId}
use Rattle.osgi_runs.specs.Courses.{Ahead, Frame, Left, OnFailed, to_caller, to_hand, to_job, to_jobs, to_plan, to_section}
use Rattle.osgi_session.specs.Plans.{End, done, failed, Plan, ask, run, stop, stirs, plan}
use Rattle.osgi_ops.specs.Bundles.{system}
use Rattle.osgi_session.specs.Runs.{asked, bind, Binding, bound_by, Call, call, calm, command_of, drained, empty, ends_drain, ends_jobs, event_bindings, fails, Follows, goes, handed, has_failed, taking, none, over, planned, ran, Reads, Sections, statements, at_stop, took, Task}
use Rattle.osgi_session.specs.declared.statement.Statement.{Statement}
use Rattle.osgi_session.specs.declared.command.Command.{Command}
use Rattle.osgi_ops.specs.declared.event.Event.{Event}
use Rattle.osgi_ops.specs.declared.kind.Kind.{Kind}
use Rattle.osgi_ops.specs.declared.op.Op.{Op}
use Rattle.osgi_ops.specs.declared.op.Op.TheVariants as op
use Rattle.osgi_ops.specs.declared.refusal.Refusal.TheVariants.{InvalidOperation}
use Rattle.osgi_ops.specs.declared.reply.Reply.{Reply}
use Rattle.osgi_ops.specs.declared.reply.Reply.TheVariants.{Refused, Handed, Job, NoJob}
use Rattle.osgi_ops.specs.declared.section.Section.{Section}
use Rattle.osgi_ops.specs.declared.section.Section.TheVariants as section
use Rattle.osgi_runs.proofs.Plans.{IsDone, plan-done, statements-done}
use Rattle.osgi_runs.proofs.Runs.{reads-frame}

-- ---- steps

pub plan-ended : {script : Sections} {outer : List Frame} {end : End} {calls : List Call} → Left script outer end calls → Ahead script (planned (stop end)) outer calls
plan-ended {end = end} {calls = calls} l = record { end = end; mid = calls; reads = at_stop; left = l }

pub plan-asked : {script : Sections} {outer : List Frame} {calls : List Call} (o : Op) (next : Reply → Plan) (y : Reply) →
    Ahead script (drained (stirs o y)) (to_plan (next y) ∷ outer) calls → Ahead script (planned (ask o next)) outer (call o y ∷ calls)
plan-asked o next y a = record { end = a.left.0; mid = a.left.1; reads = asked a.reads a.left.2; left = a.left.3 }

pub plan-runs : {script : Sections} {outer : List Frame} {calls : List Call} (row : ℕ) (owner : BundleId) (which : Section) (next : Bool → Plan) →
    Ahead script (statements owner [] (script row which)) (to_caller next ∷ outer) calls → Ahead script (planned (run row owner which next)) outer calls
plan-runs row owner which next a = record { end = a.left.0; mid = a.left.1; reads = ran a.reads a.left.2; left = a.left.3 }

pub back-to-plan : {script : Sections} {outer : List Frame} {calls : List Call} (end : End) (p : Plan) → Ahead script (planned p) outer calls → Left script (to_plan p ∷ outer) end calls
back-to-plan end p a = (a.end, a.mid, a.reads, a.left)

pub back-to-caller : {script : Sections} {outer : List Frame} {calls : List Call} (end : End) (next : Bool → Plan) → Ahead script (planned (next (has_failed end))) outer calls → Left script (to_caller next ∷ outer) end calls
back-to-caller end next a = (a.end, a.mid, a.reads, a.left)

pub no-drain : {script : Sections} {outer : List Frame} {calls : List Call} → Left script outer done calls → Ahead script (drained false) outer calls
no-drain {calls = calls} l = record { end = done; mid = calls; reads = calm; left = l }

pub drain-ended : {script : Sections} {outer : List Frame} {calls : List Call} (y : Reply) → ends_drain y ≡ true → Left script outer done calls → Ahead script (drained true) outer (call op.Hand y ∷ calls)
drain-ended {calls = calls} y e l = record { end = done; mid = calls; reads = empty e; left = l }

pub drain-hands : {script : Sections} {outer : List Frame} {calls : List Call} (l : ListenerId) (kind : Kind) (owner : BundleId) (row : ℕ) (name : List ℕ) (event : Event) →
    Ahead script (statements owner (event_bindings event) (script row (section.On name))) (to_hand l ∷ outer) calls → Ahead script (drained true) outer (call op.Hand (Handed l kind owner row name event) ∷ calls)
drain-hands {script} l kind owner row name event a =
    record { end = done; mid = a.left.2; reads = handed (subst (λ m. Reads script (statements owner (event_bindings event) (script row (section.On name))) a.end _ m) a.left.3 a.reads) a.left.4; left = a.left.5 }

drain-done : {script : Sections} {b : Bool} {end : End} {calls mid : List Call} → Reads script (drained b) end calls mid → end ≡ done
drain-done calm = refl
drain-done (empty e) = refl
drain-done (handed a b) = refl

jobs-end : {script : Sections} {end : End} {calls mid : List Call} → Reads script taking end calls mid → end ≡ done
jobs-end (none e) = refl
jobs-end (took a b) = refl

pub back-to-hand : {script : Sections} {outer : List Frame} {calls : List Call} (end : End) (l : ListenerId) (y : Reply) → Ahead script (drained true) outer calls → Left script (to_hand l ∷ outer) end (call (op.EndHand l) y ∷ calls)
back-to-hand {script} {outer} {calls} end l y a =
    let e = drain-done a.reads in (y, calls, a.mid, refl, subst (λ x. Reads script (drained true) x calls a.mid) e a.reads, subst (λ x. Left script outer x a.mid) e a.left)

pub section-ended : {script : Sections} {outer : List Frame} {calls : List Call} (owner : BundleId) (bindings : List Binding) → Left script outer done calls → Ahead script (statements owner bindings []) outer calls
section-ended {calls = calls} owner bindings l = record { end = done; mid = calls; reads = over; left = l }

section_on : {script : Sections} {outer : List Frame} {calls mid : List Call} {end : End} (owner : BundleId) (bindings : List Binding) (s : Statement) (more : List Statement) →
    Reads script (planned (plan owner (command_of owner bindings s))) end calls mid → (b : Bool) → has_failed end ≡ b →
    OnFailed b (Left script outer failed mid) ((after : End) × (m : List Call) × Reads script (statements owner (bind (bound_by s) end bindings) more) after mid m × Left script outer after m) →
    Ahead script (statements owner bindings (s ∷ more)) outer calls
section_on {mid = mid} owner bindings s more reads true e l = record { end = failed; mid = mid; reads = fails reads e; left = l }
section_on owner bindings s more reads false e l = record { end = l.0; mid = l.1; reads = goes reads e l.2; left = l.3 }

pub section-goes : {script : Sections} {outer : List Frame} {calls : List Call} (owner : BundleId) (bindings : List Binding) (s : Statement) (more : List Statement) →
    Ahead script (planned (plan owner (command_of owner bindings s))) (to_section owner bindings s more ∷ outer) calls → Ahead script (statements owner bindings (s ∷ more)) outer calls
section-goes owner bindings s more a = section_on owner bindings s more a.reads (has_failed a.end) refl a.left

pub statement-failed : (script : Sections) (outer : List Frame) (calls : List Call) (end : End) (owner : BundleId) (bindings : List Binding) (s : Statement) (more : List Statement) → has_failed end ≡ true →
    Left script outer failed calls → Left script (to_section owner bindings s more ∷ outer) end calls
statement-failed script outer calls end owner bindings s more e l =
    subst (λ b. OnFailed b (Left script outer failed calls) ((after : End) × (m : List Call) × Reads script (statements owner (bind (bound_by s) end bindings) more) after calls m × Left script outer after m)) (sym e) l

pub statement-done : (script : Sections) (outer : List Frame) (calls : List Call) (end : End) (owner : BundleId) (bindings : List Binding) (s : Statement) (more : List Statement) → has_failed end ≡ false →
    Ahead script (statements owner (bind (bound_by s) end bindings) more) outer calls → Left script (to_section owner bindings s more ∷ outer) end calls
statement-done script outer calls end owner bindings s more e a =
    subst (λ b. OnFailed b (Left script outer failed calls) ((after : End) × (m : List Call) × Reads script (statements owner (bind (bound_by s) end bindings) more) after calls m × Left script outer after m)) (sym e) (a.end, a.mid, a.reads, a.left)

pub back-to-jobs : {script : Sections} {outer : List Frame} {calls : List Call} (end : End) → Ahead script taking outer calls → Left script (to_jobs ∷ outer) end calls
back-to-jobs {script} {outer} {calls} end a =
    let e = jobs-end a.reads in (a.mid, subst (λ x. Reads script taking x calls a.mid) e a.reads, subst (λ x. Left script outer x a.mid) e a.left)

pub jobs-ended : {script : Sections} {outer : List Frame} {calls : List Call} (y : Reply) → ends_jobs y ≡ true → Left script outer done calls → Ahead script taking outer (call op.TakeJob y ∷ calls)
jobs-ended {calls = calls} y e l = record { end = done; mid = calls; reads = none e; left = l }

pub job-taken : {script : Sections} {outer : List Frame} {calls : List Call} (owner : BundleId) (row : ℕ) (name : List ℕ) →
    Ahead script (statements owner [] (script row (section.Job name))) (to_job ∷ outer) calls → Ahead script taking outer (call op.TakeJob (Job owner row name) ∷ calls)
job-taken {script} owner row name a =
    record { end = done; mid = a.left.2; reads = took (subst (λ m. Reads script (statements owner [] (script row (section.Job name))) a.end _ m) a.left.3 a.reads) a.left.4; left = a.left.5 }

pub back-to-job : {script : Sections} {outer : List Frame} {calls : List Call} (end : End) (y : Reply) → Ahead script taking outer calls → Left script (to_job ∷ outer) end (call op.EndJob y ∷ calls)
back-to-job {script} {outer} {calls} end y a =
    let e = jobs-end a.reads in (y, calls, a.mid, refl, subst (λ x. Reads script taking x calls a.mid) e a.reads, subst (λ x. Left script outer x a.mid) e a.left)

-- ---- a whole command

-- what is ahead of a command that was not begun is a run of it
pub command-run : {script : Sections} (c : Command) (calls : List Call) → Ahead script (planned (plan system c)) (to_jobs ∷ []) calls → Follows script c calls
command-run {script} c calls a =
    record { end = a.end; mid = a.mid; plan = a.reads; jobs = subst (λ m. Reads script taking done a.mid m) a.left.2 a.left.1 }

-- ---- there is always something ahead

pub record Some (P : List Call → Type 0) : Type 0 where
  pub calls : List Call
  pub is : P calls

-- where a task has a run, and where what comes after it has one
joined : {script : Sections} (t : Task) (outer : List Frame) (d : IsDone script t) → Some (Left script outer d.end) → Some (Ahead script t outer)
joined t outer d l = record { calls = d.calls ++ l.calls; is = record { end = d.end; mid = l.calls; reads = reads-frame l.calls d.reads; left = l.is } }

after_statement : (script : Sections) (outer : List Frame) (end : End) (owner : BundleId) (bindings : List Binding) (s : Statement) (more : List Statement) → ((e : End) → Some (Left script outer e)) →
    (b : Bool) → has_failed end ≡ b → Some (Left script (to_section owner bindings s more ∷ outer) end)
after_statement script outer end owner bindings s more left true e =
    let l = left failed in record { calls = l.calls; is = statement-failed script outer l.calls end owner bindings s more e l.is }
after_statement script outer end owner bindings s more left false e =
    let d = statements-done owner (bind (bound_by s) end bindings) more in
    let a = joined (statements owner (bind (bound_by s) end bindings) more) outer d (left d.end) in
    record { calls = a.calls; is = statement-done script outer a.calls end owner bindings s more e a.is }

pub some-left : (script : Sections) (outer : List Frame) (end : End) → Some (Left script outer end)
some-left script [] end = record { calls = []; is = refl }
some-left script (to_plan p ∷ outer) end = let d = plan-done p in let a = joined (planned p) outer d (some-left script outer d.end) in record { calls = a.calls; is = back-to-plan end p a.is }
some-left script (to_caller next ∷ outer) end =
    let d = plan-done (next (has_failed end)) in let a = joined (planned (next (has_failed end))) outer d (some-left script outer d.end) in record { calls = a.calls; is = back-to-caller end next a.is }
some-left script (to_section owner bindings s more ∷ outer) end = after_statement script outer end owner bindings s more (λ e. some-left script outer e) (has_failed end) refl
some-left script (to_hand l ∷ outer) end =
    let rest = some-left script outer done in
    record { calls = call (op.EndHand l) (Refused InvalidOperation) ∷ call op.Hand (Refused InvalidOperation) ∷ rest.calls; is = back-to-hand end l (Refused InvalidOperation) (drain-ended (Refused InvalidOperation) refl rest.is) }
some-left script (to_job ∷ outer) end =
    let rest = some-left script outer done in
    record { calls = call op.EndJob (Refused InvalidOperation) ∷ call op.TakeJob NoJob ∷ rest.calls; is = back-to-job end (Refused InvalidOperation) (jobs-ended NoJob refl rest.is) }
some-left script (to_jobs ∷ outer) end = let rest = some-left script outer done in record { calls = call op.TakeJob NoJob ∷ rest.calls; is = back-to-jobs end (jobs-ended NoJob refl rest.is) }

pub some-ahead : {script : Sections} (t : Task) (outer : List Frame) → IsDone script t → Some (Ahead script t outer)
some-ahead {script} t outer d = joined t outer d (some-left script outer d.end)
