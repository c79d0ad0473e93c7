-- A whole run of a line in a legal history ends with a TakeJob that found no job, and a cut one does not: so `full` is written exactly where a
-- run was cut.
use Rattle.std.proofs.Common.{◌≡◌, inl, inr, ◌<◌, ℕ, List, [], ◌∷◌, ◌++◌, length, map, append-nil, Bool, true, false, refl, sym, ap, ◌∙◌, subst, arith}
use Rattle.std.specs.Prelude.{None, ⊤}
use Rattle.std.proofs.lemmas.Bool.{false_from_ne_true}
use Rattle.osgi_base.specs.declared.ids.Tag.{Tag}
use Rattle.osgi_ops.specs.Brackets.{Bracket, bracket, job}
use Rattle.osgi_ops.specs.declared.limits.TheConstants.{MAX_BRACKETS}
use Rattle.osgi_ops.specs.Bundles.{system}
use Rattle.osgi_ops.specs.declared.entry.Entry.{Entry}
use Rattle.osgi_ops.specs.declared.op.Op.{Op}
use Rattle.osgi_ops.specs.declared.op.Op.TheVariants.{EndJob, TakeJob}
use Rattle.osgi_ops.specs.declared.reply.Reply.{Reply}
use Rattle.osgi_ops.specs.declared.reply.Reply.TheVariants.{Job}
use Rattle.osgi_runs.specs.Bound.{is_take, AreBound, NoTakeTask}
use Rattle.osgi_session.specs.Plans.{End, plan}
use Rattle.osgi_session.specs.declared.command.Command.{Command}
use Rattle.osgi_session.specs.Rendering.{ends_without_job, takes_no_job}
use Rattle.osgi_session.specs.Runs.{asked, Call, call, calm, command_of, empty, fails, Follows, goes, handed, has_failed, IsCutRun, IsSpentRun, taking, none, over, ran, Reads, Sections, at_stop, took, Task}
use Rattle.osgi_session.specs.Sessions.{call_of, IsCutRunOf, IsRunOf}
use Rattle.osgi_session.specs.declared.line.Line.{Line}
use Rattle.osgi_runs.proofs.Balanced.{balanced, behind-end}
use Rattle.osgi_runs.proofs.Closing.{closes-plan}
use Rattle.osgi_runs.proofs.Due.{AreDue}
use Rattle.osgi_runs.proofs.Runs.{whole-not-cut}
use Rattle.osgi_runs.proofs.Sessions.{bound-of}
use Rattle.osgi_runs.proofs.Words.{no-word, put-word, then-word, word-of}
use Rattle.osgi_runs.proofs.Taking.{takes-plan}

-- the calls end with a TakeJob that found no job
abbrev pub has_ended : List Call → Bool
has_ended [] = false
has_ended (c ∷ []) = takes_no_job c.op c.reply
has_ended (c ∷ more) = has_ended more

ended-behind : (u w : List Call) → has_ended w ≡ true → has_ended (u ++ w) ≡ true
ended-behind [] w e = e
ended-behind (c ∷ []) [] e = absurd (cc e)
ended-behind (c ∷ []) (d ∷ w) e = e
ended-behind (c ∷ (d ∷ u)) w e = ended-behind (d ∷ u) w e

ended-calls : (entries : List Entry) → ends_without_job entries ≡ has_ended (map call_of entries)
ended-calls [] = refl
ended-calls (e ∷ []) = refl
ended-calls (e ∷ (f ∷ more)) = ended-calls (f ∷ more)

-- jobs that are taken to their end, below the greatest depth
jobs-ended : {script : Sections} (limit : ℕ) (tag : Tag) (after : List Bracket → Type 0) {end : End} {calls left : List Call} → Reads script taking end calls left → (own : List Bracket) → left ≡ [] →
    AreBound limit tag after own calls → length own < limit → has_ended calls ≡ true
jobs-ended limit tag after (none {reply = y} {left = left} e) own q h less =
    ap (λ l. has_ended (call TakeJob y ∷ l)) q ∙ elim (h.0.taken refl e) [ inl s ↦ s | inr deep ↦ absurd (omega (arith, deep, less)) ]
jobs-ended limit tag after (took {owner = w} {row = n} {name = m} {reply = y} {calls = calls} {mid = mid} s x) own q h less =
    let inside : AreBound limit tag after (bracket tag job ∷ own) calls = h.1 in
    let k = behind-end limit tag after own job EndJob y mid refl (balanced limit tag after s None (bracket tag job ∷ own) refl inside) in
    let rest = jobs-ended limit tag after x own q k.1 less in
    let word = word-of s in
    ended-behind (call TakeJob (Job w n m) ∷ []) calls
    (subst (λ l. has_ended l ≡ true) (sym word.is) (ended-behind word.word (call EndJob y ∷ mid) (ended-behind (call EndJob y ∷ []) mid rest)))

-- of a caller whose entries are due, and that has no bracket open before the run
pub run-ended : {script : Sections} {caller : ℕ} {line : Line} (after : List Bracket → Type 0) (entries rest : List Entry) → IsRunOf script caller line entries → AreDue after [] (entries ++ rest) → ends_without_job entries ≡ true
run-ended {script} {caller} {line} after entries rest r d =
    let tag : Tag = record { caller = caller; command = line.number } in
    let then : List Bracket → Type 0 = λ end. AreDue after end rest in
    let lawful = bound-of after caller line entries rest [] r.tagged d in
    let p = closes-plan system r.command in
    let behind = balanced MAX_BRACKETS tag then r.follows.plan None [] p lawful in
    let end = jobs-ended MAX_BRACKETS tag then r.follows.jobs [] refl behind (omega arith) in
    let u = word-of r.follows.plan in
    ended-calls entries ∙ ap has_ended u.is ∙ ended-behind u.word r.follows.mid end

-- ---- and a run that is cut does not

-- none of the calls found no job
abbrev pub NoneFinds : List Call → Type 0
NoneFinds [] = ⊤
NoneFinds (c ∷ more) = (takes_no_job c.op c.reply ≡ false) × NoneFinds more

finds-append : (u w : List Call) → NoneFinds u → NoneFinds w → NoneFinds (u ++ w)
finds-append [] w a b = b
finds-append (c ∷ u) w a b = (a.0, finds-append u w a.1 b)

other-finds : (o : Op) (y : Reply) → is_take o ≡ false → takes_no_job o y ≡ false
other-finds TakeJob y e = absurd (cc e)
other-finds o y e = refl

-- what is read of anything but the jobs
task-finds : {script : Sections} {t : Task} {end : End} {calls left : List Call} (x : Reads script t end calls left) → NoTakeTask t → NoneFinds (word-of x).word
unfolding word-of no-word then-word put-word
task-finds at_stop n = tt
task-finds (asked {asks = o} {reply = y} d x) n = (other-finds o y n.0, finds-append (word-of d).word (word-of x).word (task-finds d tt) (task-finds x (n.1 y)))
task-finds (ran {inner = q} s x) n = finds-append (word-of s).word (word-of x).word (task-finds s tt) (task-finds x (n (has_failed q)))
task-finds calm n = tt
task-finds (empty e) n = (refl, tt)
task-finds (handed s x) n = (refl, finds-append (word-of s).word _ (task-finds s tt) (refl, task-finds x tt))
task-finds over n = tt
task-finds (fails {owner = w} {bindings = g} {s = s} x f) n = task-finds x (takes-plan w (command_of w g s))
task-finds (goes {owner = w} {bindings = g} {s = s} x f y) n = finds-append (word-of x).word (word-of y).word (task-finds x (takes-plan w (command_of w g s))) (task-finds y tt)
task-finds (none e) n = absurd n
task-finds (took s x) n = absurd n

-- of the calls the last alone may have found no job
abbrev pub OnlyLast : List Call → Type 0
OnlyLast [] = ⊤
OnlyLast (c ∷ []) = ⊤
OnlyLast (c ∷ (d ∷ more)) = (takes_no_job c.op c.reply ≡ false) × OnlyLast (d ∷ more)

finds-last : (u w : List Call) → NoneFinds u → OnlyLast w → OnlyLast (u ++ w)
finds-last [] w a b = b
finds-last (c ∷ []) [] a b = tt
finds-last (c ∷ []) (d ∷ w) a b = (a.0, b)
finds-last (c ∷ (d ∷ u)) w a b = (a.0, finds-last (d ∷ u) w a.1 b)

job-last : {script : Sections} {t : Task} {end : End} {calls left : List Call} (x : Reads script t end calls left) → t ≡ taking → OnlyLast (word-of x).word
unfolding word-of no-word then-word put-word
job-last at_stop q = tt
job-last (asked d x) q = absurd (cc q)
job-last (ran s x) q = absurd (cc q)
job-last calm q = tt
job-last (empty e) q = tt
job-last (handed s x) q = absurd (cc q)
job-last over q = tt
job-last (fails x f) q = absurd (cc q)
job-last (goes x f y) q = absurd (cc q)
job-last (none e) q = tt
job-last (took {owner = w} {row = n} {name = m} {reply = y} s x) q =
    finds-last (call TakeJob (Job w n m) ∷ (word-of s).word) (call EndJob y ∷ (word-of x).word) (refl, task-finds s tt) (finds-last (call EndJob y ∷ []) (word-of x).word (refl, tt) (job-last x refl))

-- a beginning that ends with a TakeJob that found no job is the whole
whole-by : (calls missing : List Call) → OnlyLast (calls ++ missing) → has_ended calls ≡ true → missing ≡ []
whole-by [] missing o e = absurd (cc e)
whole-by (c ∷ []) [] o e = refl
whole-by (c ∷ []) (d ∷ more) o e = absurd (let bad : true ≡ false = sym e ∙ o.0 in cc bad)
whole-by (c ∷ (d ∷ more)) missing o e = whole-by (d ∷ more) missing o.1 e

pub follows-last : {script : Sections} {c : Command} {calls : List Call} → Follows script c calls → OnlyLast calls
follows-last {script} {c} {calls} f =
    let u = word-of f.plan in
    let w = word-of f.jobs in
    let is : calls ≡ u.word ++ w.word = u.is ∙ ap (λ l. u.word ++ l) (w.is ∙ append-nil w.word) in
    subst OnlyLast (sym is) (finds-last u.word w.word (task-finds f.plan (takes-plan system c)) (job-last f.jobs refl))

-- whatever the history, a run that is cut, or never begun, does not end so
pub cut-not-ended : (script : Sections) (c : Command) (calls : List Call) → IsCutRun script c calls → has_ended calls ≡ false
cut-not-ended script c calls (missing, some, f) = false_from_ne_true _ (λ e. some (whole-by calls missing (follows-last f) e))

-- nor one that ends with a Hand refused since enough was handed
spent-behind : (first : List Call) (c : Call) → takes_no_job c.op c.reply ≡ false → has_ended (first ++ c ∷ []) ≡ false
spent-behind [] c e = e
spent-behind (d ∷ []) c e = e
spent-behind (d ∷ (f ∷ more)) c e = spent-behind (f ∷ more) c e

pub spent-not-ended : (script : Sections) (c : Command) (calls : List Call) → IsSpentRun script c calls → has_ended calls ≡ false
spent-not-ended script c calls (first, reply, missing, is, f) = ap has_ended is ∙ spent-behind first _ refl

-- ---- a whole run ends with a TakeJob, so no cut one is whole

-- the calls end with a TakeJob
abbrev has_taken : List Call → Bool
has_taken [] = false
has_taken (c ∷ []) = is_take c.op
has_taken (c ∷ more) = has_taken more

taken-behind : (u w : List Call) → has_taken w ≡ true → has_taken (u ++ w) ≡ true
taken-behind [] w e = e
taken-behind (c ∷ []) [] e = absurd (cc e)
taken-behind (c ∷ []) (d ∷ w) e = e
taken-behind (c ∷ (d ∷ u)) w e = taken-behind (d ∷ u) w e

jobs-taken : {script : Sections} {t : Task} {end : End} {calls left : List Call} → Reads script t end calls left → t ≡ taking → left ≡ [] → has_taken calls ≡ true
jobs-taken at_stop q e = absurd (cc q)
jobs-taken (asked d x) q e = absurd (cc q)
jobs-taken (ran s x) q e = absurd (cc q)
jobs-taken calm q e = absurd (cc q)
jobs-taken (empty n) q e = absurd (cc q)
jobs-taken (handed s x) q e = absurd (cc q)
jobs-taken over q e = absurd (cc q)
jobs-taken (fails x f) q e = absurd (cc q)
jobs-taken (goes x f y) q e = absurd (cc q)
jobs-taken (none {reply = y} n) q e = ap (λ l. has_taken (call TakeJob y ∷ l)) e
jobs-taken (took {owner = w} {row = n} {name = m} {reply = y} {calls = calls} {mid = mid} s x) q e =
    let word = word-of s in
    taken-behind (call TakeJob (Job w n m) ∷ []) calls
    (subst (λ l. has_taken l ≡ true) (sym word.is) (taken-behind word.word (call EndJob y ∷ mid) (taken-behind (call EndJob y ∷ []) mid (jobs-taken x refl e))))

follows-taken : {script : Sections} {c : Command} {calls : List Call} → Follows script c calls → has_taken calls ≡ true
follows-taken f =
    let u = word-of f.plan in ap has_taken u.is ∙ taken-behind u.word f.mid (jobs-taken f.jobs refl refl)

-- no run is whole without a call
pub nothing-not-whole : {script : Sections} {c : Command} → Follows script c [] → ⊥
nothing-not-whole f = let bad : false ≡ true = follows-taken f in cc bad

pub cut-not-whole : {script : Sections} (c : Command) (calls : List Call) → IsCutRun script c calls → Follows script c calls → ⊥
cut-not-whole c calls (missing, some, f) whole = some (whole-not-cut calls missing whole f)

hand-last : (first : List Call) (c : Call) → is_take c.op ≡ false → has_taken (first ++ c ∷ []) ≡ false
hand-last [] c e = e
hand-last (d ∷ []) c e = e
hand-last (d ∷ (f ∷ more)) c e = hand-last (f ∷ more) c e

pub spent-not-whole : {script : Sections} (c d : Command) (calls : List Call) → IsSpentRun script c calls → Follows script d calls → ⊥
spent-not-whole c d calls (first, reply, missing, is, f) whole =
    let bad : true ≡ false = sym (follows-taken whole) ∙ ap has_taken is ∙ hand-last first _ refl in cc bad

-- ---- of the entries of a line

-- where a run was cut, or never begun, it is not whole
pub cut-run-not-whole : {script : Sections} {caller other : ℕ} {line : Line} (spent : Bool) (entries : List Entry) → IsCutRunOf script caller line spent entries → IsRunOf script other line entries → ⊥
cut-run-not-whole true entries k r = spent-not-whole k.command r.command (map call_of entries) k.cut r.follows
cut-run-not-whole {script} false entries k r =
    let same : r.command ≡ k.command = cc (sym r.says ∙ k.says) in
    cut-not-whole k.command (map call_of entries) k.cut (subst (λ c. Follows script c (map call_of entries)) same r.follows)

-- and its entries do not end with a TakeJob that found no job
pub cut-run-not-ended : {script : Sections} {caller : ℕ} {line : Line} (spent : Bool) (entries : List Entry) → IsCutRunOf script caller line spent entries → ends_without_job entries ≡ false
cut-run-not-ended {script} true entries k = ended-calls entries ∙ spent-not-ended script k.command (map call_of entries) k.cut
cut-run-not-ended {script} false entries k = ended-calls entries ∙ cut-not-ended script k.command (map call_of entries) k.cut
