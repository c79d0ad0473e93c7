-- Every task has a run, so what was read so far is always the beginning of one.
use Rattle.std.proofs.Common.{◌≡◌, List, [], ◌∷◌, ◌++◌, Bool, true, false, refl, sym, subst}
use Rattle.osgi_base.specs.declared.ids.BundleId.{BundleId}
use Rattle.std.specs.Prelude.{◌==◌, cond}
use Rattle.osgi_session.specs.Beginnings.{is_peek}
use Rattle.osgi_session.specs.Plans.{End, done, failed, refused, Plan, ask, run, stop, stirs, plan}
use Rattle.osgi_session.specs.Runs.{Binding, Call, call, command_of, has_failed, Task, planned, drained, statements, taking, Sections, Reads, at_stop, asked, ran, calm, empty, over, fails, none}
use Rattle.osgi_session.specs.declared.command.Command.{Command}
use Rattle.osgi_session.specs.declared.command.Command.TheVariants as command
use Rattle.osgi_ops.specs.declared.op.Op.{Op}
use Rattle.osgi_ops.specs.declared.op.Op.TheVariants as op
use Rattle.osgi_ops.specs.declared.refusal.Refusal.TheVariants.{InvalidOperation}
use Rattle.osgi_ops.specs.declared.reply.Reply.{Reply}
use Rattle.osgi_ops.specs.declared.reply.Reply.TheVariants.{Refused, NoJob}
use Rattle.osgi_session.specs.declared.statement.Statement.{Statement}
use Rattle.osgi_session.specs.declared.statement.Statement.TheVariants as statement
use Rattle.osgi_runs.proofs.Runs.{reads-frame}

-- a run of the task that leaves nothing
pub record IsDone (script : Sections) (t : Task) : Type 0 where
  pub end : End
  pub calls : List Call
  pub reads : Reads script t end calls []

abbrev no : Reply
no = Refused InvalidOperation

-- a drain, where one follows: it finds nothing to hand
drain-run : {script : Sections} (b : Bool) → (calls : List Call) × Reads script (drained b) done calls []
drain-run true = (call op.Hand no ∷ [], empty refl)
drain-run false = ([], calm)

quiet-drain : {script : Sections} (o : Op) {left : List Call} → stirs o no ≡ false → Reads script (drained (stirs o no)) done left left
quiet-drain {script} o {left} quiet = subst (λ b. Reads script (drained b) done left left) (sym quiet) calm

-- a plan that begins with an operation, and whose refusal ends it as refused
pub record IsShort (p : Plan) : Type 0 where
  pub asks : Op
  pub next : Reply → Plan
  pub is : p ≡ ask asks next
  pub ends : next no ≡ stop refused
  pub quiet : stirs asks no ≡ false

short-load : (console : Bool) (first second : Plan) → IsShort first → IsShort second → IsShort (cond console first second)
short-load true first second a b = a
short-load false first second a b = b

-- of every command but a peek, which asks for nothing
pub short-plan : (owner : BundleId) (c : Command) → is_peek c ≡ false → IsShort (plan owner c)
short-plan owner (command.Peek class filter) no_peek = absurd (cc no_peek)
short-plan owner (command.Load bundle class) no_peek =
    short-load (owner.0 == 0) _ _ (record { asks = op.Resolve bundle; next = _; is = refl; ends = refl; quiet = refl }) (record { asks = op.Load bundle class; next = _; is = refl; ends = refl; quiet = refl })
short-plan owner c no_peek = record { asks = _; next = _; is = refl; ends = refl; quiet = refl }

-- no statement is a peek
no-peek : (owner : BundleId) (bindings : List Binding) (s : Statement) → is_peek (command_of owner bindings s) ≡ false
no-peek owner bindings (statement.Get var) = refl
no-peek owner bindings s = refl

-- the shortest run of a statement is its first operation, refused
statement-done : {script : Sections} (owner : BundleId) (c : Command) (left : List Call) → is_peek c ≡ false → (o : Op) × Reads script (planned (plan owner c)) refused (call o no ∷ left) left
statement-done {script} owner c left no_peek =
    let s = short-plan owner c no_peek in (
      s.asks,
      subst (λ p. Reads script (planned p) refused (call s.asks no ∷ left) left) (sym s.is)
          (asked (quiet-drain s.asks s.quiet) (subst (λ p. Reads script (planned p) refused left left) (sym s.ends) at_stop)),
    )

pub statements-done : {script : Sections} (owner : BundleId) (bindings : List Binding) (body : List Statement) → IsDone script (statements owner bindings body)
statements-done owner bindings [] = record { end = done; calls = []; reads = over }
statements-done owner bindings (s ∷ more) =
    let d = statement-done owner (command_of owner bindings s) [] (no-peek owner bindings s) in record { end = failed; calls = call d.0 no ∷ []; reads = fails d.1 refl }

then-done : {script : Sections} {t : Task} {end : End} {calls : List Call} (more : List Call) → Reads script t end calls [] → Reads script t end (calls ++ more) more
then-done more x = reads-frame more x

pub plan-done : {script : Sections} (p : Plan) → IsDone script (planned p)
plan-done (stop end) = record { end = end; calls = []; reads = at_stop }
plan-done {script} (ask o next) =
    let d = plan-done (next no) in
    let n = drain-run (stirs o no) in
    record { end = d.end; calls = call o no ∷ (n.0 ++ d.calls); reads = asked (then-done d.calls n.1) d.reads }
plan-done {script} (run row owner which next) =
    let s = statements-done owner [] (script row which) in
    let d = plan-done (next (has_failed s.end)) in
    record { end = d.end; calls = s.calls ++ d.calls; reads = ran (then-done d.calls s.reads) d.reads }

pub drain-done : {script : Sections} (b : Bool) → IsDone script (drained b)
drain-done b = let n = drain-run b in record { end = done; calls = n.0; reads = n.1 }

pub jobs-done : {script : Sections} → IsDone script taking
jobs-done = record { end = done; calls = call op.TakeJob NoJob ∷ []; reads = none refl }
