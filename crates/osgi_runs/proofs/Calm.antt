-- Whole runs of one caller, one after another: each call that may leave something to be handed has a Hand behind it that finds nothing.
use Rattle.std.proofs.Common.{◌≡◌, List, [], ◌++◌, append-nil, refl, sym, ap, ◌∙◌, subst, arith, ℕ}
use Rattle.std.specs.Prelude.{None}
use Rattle.std.proofs.lemmas.List.{map-append}
use Rattle.osgi_base.specs.declared.ids.Tag.{Tag}
use Rattle.osgi_ops.specs.Brackets.{Bracket}
use Rattle.osgi_ops.specs.Bundles.{system}
use Rattle.osgi_ops.specs.declared.entry.Entry.{Entry}
use Rattle.osgi_ops.specs.declared.limits.TheConstants.{MAX_BRACKETS}
use Rattle.osgi_session.specs.Runs.{Sections}
use Rattle.osgi_session.specs.Sessions.{call_of, IsRunOf}
use Rattle.osgi_session.specs.declared.line.Line.{Line}
use Rattle.osgi_runs.proofs.Balanced.{balanced}
use Rattle.osgi_runs.proofs.Closing.{closes-plan}
use Rattle.osgi_runs.proofs.Due.{AreDue}
use Rattle.osgi_runs.proofs.Sessions.{AreRuns, bound-of, calls_of, next, none}
use Rattle.osgi_runs.proofs.Settled.{AreSettled, settled, settled-append}
use Rattle.osgi_runs.proofs.Words.{word-of}

-- a whole run, which leaves the brackets that it found
pub run-settled : {script : Sections} {caller : ℕ} {line : Line} (after : List Bracket → Type 0) (entries rest : List Entry) → IsRunOf script caller line entries → AreDue after [] (entries ++ rest) →
    AreSettled (calls_of entries) × AreDue after [] rest
run-settled {script} {caller} {line} after entries rest r d =
    let tag : Tag = record { caller = caller; command = line.number } in
    let then : List Bracket → Type 0 = λ end. AreDue after end rest in
    let bound = bound-of after caller line entries rest [] r.tagged d in
    let p = closes-plan system r.command in
    let behind = balanced MAX_BRACKETS tag then r.follows.plan None [] p bound in
    let end = balanced MAX_BRACKETS tag then r.follows.jobs None [] refl behind in
    let a = settled MAX_BRACKETS tag then r.follows.plan None [] p bound (omega arith) in
    let b = settled MAX_BRACKETS tag then r.follows.jobs None [] refl behind (omega arith) in
    let u = word-of r.follows.plan in
    let w = word-of r.follows.jobs in
    let is : calls_of entries ≡ u.word ++ w.word = u.is ∙ ap (λ l. u.word ++ l) (w.is ∙ append-nil w.word) in
    (subst AreSettled (sym is) (settled-append u.word w.word a.0 b.0), end)

pub runs-settled : {script : Sections} {caller : ℕ} {entries : List Entry} (after : List Bracket → Type 0) → AreRuns script caller entries → AreDue after [] entries → AreSettled (calls_of entries) × after []
runs-settled after none d = (tt, d)
runs-settled after (next {entries = entries} {rest = rest} r x) d =
    let a = run-settled after entries rest r d in
    let b = runs-settled after x a.1 in
    (subst AreSettled (sym (map-append call_of entries rest)) (settled-append (calls_of entries) (calls_of rest) a.0 b.0), b.1)
