-- The entries of each caller of a session without a cut: whole runs, one after another, with no bracket left open.
use Rattle.std.proofs.Common.{◌≡◌, ◌⊎◌, inl, inr, ◌≤◌, ◌<◌, ◌+◌, ℕ, List, [], ◌∷◌, ◌++◌, map, append_assoc, Bool, true, false, refl, sym, ap, ◌∙◌, subst, arith}
use Rattle.std.specs.Prelude.{nat_lt, cond, None, All}
use Rattle.std.proofs.lemmas.Bool.{eq-eqb, ltb-true, ltb-false, ne_eqb}
use Rattle.std.proofs.lemmas.List.Elements.{All-head, All-tail, All-weaker, filter-append}
use Rattle.osgi_base.specs.declared.ids.Tag.{Tag}
use Rattle.osgi_ops.specs.Brackets.{Bracket, opens}
use Rattle.osgi_ops.specs.OwnBrackets.{own_closes, own_turned}
use Rattle.osgi_ops.specs.declared.limits.TheConstants.{MAX_BRACKETS}
use Rattle.osgi_runs.specs.Bound.{IsBound, AreBound}
use Rattle.osgi_ops.specs.Bundles.{system}
use Rattle.osgi_session.specs.Runs.{Call, Sections}
use Rattle.osgi_ops.specs.Callers.{by, is_by}
use Rattle.osgi_session.specs.Sessions.{AreLanes, AreTagged, Block, call_of, cut, IsRunOf, Lane, LaneRun, lanes, lanes_cut, Makes, Never, over, ran}
use Rattle.osgi_ops.specs.declared.entry.Entry.{Entry}
use Rattle.osgi_session.specs.declared.line.Line.{Line}
use Rattle.osgi_runs.proofs.Balanced.{balanced}
use Rattle.osgi_runs.proofs.Closing.{closes-plan}
use Rattle.osgi_runs.proofs.Due.{AreDue}
use Rattle.osgi_legal.proofs.Levels.{cases_eq}

-- whole runs of one caller, one after another
pub data AreRuns (script : Sections) (caller : ℕ) : List Entry → Type 0 where
  none : AreRuns script caller []
  next : {line : Line} {entries rest : List Entry} → IsRunOf script caller line entries → AreRuns script caller rest → AreRuns script caller (entries ++ rest)

runs-append : {script : Sections} {caller : ℕ} {first second : List Entry} → AreRuns script caller first → AreRuns script caller second → AreRuns script caller (first ++ second)
runs-append none more = more
runs-append {script} {caller} {second = second} (next {entries = entries} {rest = rest} r x) more =
    subst (λ l. AreRuns script caller l) (sym (append_assoc entries rest second)) (next r (runs-append x more))

lane-runs : {script : Sections} {caller : ℕ} {was_cut : Bool} {lines : List Line} {entries : List Entry} → Lane script Never caller was_cut lines entries → AreRuns script caller entries
lane-runs over = none
lane-runs (ran r x) = next r (lane-runs x)
lane-runs (cut c never) = absurd never

-- ---- who made which entries

abbrev pub IsBy : ℕ → Entry → Type 0
IsBy caller e = e.tag.caller ≡ caller

abbrev IsNotBy : ℕ → Entry → Type 0
IsNotBy caller e = e.tag.caller ≡ caller → ⊥

pub all-by : (caller : ℕ) (entries : List Entry) → All (IsBy caller) entries → by caller entries ≡ entries
all-by caller [] a = refl
all-by caller (e ∷ rest) a =
    ap (λ k. cond k (e ∷ by caller rest) (by caller rest)) (eq-eqb e.tag.caller caller (All-head (IsBy caller) e rest a))
    ∙ ap (λ l. e ∷ l) (all-by caller rest (All-tail (IsBy caller) e rest a))

none-by : (caller : ℕ) (entries : List Entry) → All (IsNotBy caller) entries → by caller entries ≡ []
none-by caller [] a = refl
none-by caller (e ∷ rest) a =
    ap (λ k. cond k (e ∷ by caller rest) (by caller rest)) (ne_eqb e.tag.caller caller (All-head (IsNotBy caller) e rest a))
    ∙ none-by caller rest (All-tail (IsNotBy caller) e rest a)

abbrev pub HasTag : ℕ → Line → Entry → Type 0
HasTag caller line e = e.tag ≡ record { caller = caller; command = line.number }

run-by : (caller : ℕ) (line : Line) (entries : List Entry) → AreTagged caller line entries → by caller entries ≡ entries
run-by caller line entries a = all-by caller entries (All-weaker (HasTag caller line) (IsBy caller) (λ e t. ap (λ (g : Tag). g.caller) t) entries a)

run-not-by : (caller other : ℕ) (line : Line) (entries : List Entry) → (caller ≡ other → ⊥) → AreTagged caller line entries → by other entries ≡ []
run-not-by caller other line entries n a =
    none-by other entries (All-weaker (HasTag caller line) (IsNotBy other) (λ e t q. n (sym (ap (λ (g : Tag). g.caller) t) ∙ q)) entries a)

abbrev IsFrom : ℕ → Entry → Type 0
IsFrom first e = first ≤ e.tag.caller

abbrev IsBelow : ℕ → Entry → Type 0
IsBelow first e = e.tag.caller < first

cases_le : (a b : ℕ) → (a ≤ b) ⊎ (b < a)
cases_le a b = go (nat_lt b a) refl
  where
    go : (k : Bool) → nat_lt b a ≡ k → (a ≤ b) ⊎ (b < a)
    go true e = inr (ltb-true b a e)
    go false e = inl (ltb-false b a e)

-- one of the lanes is the caller's, or none is
lanes-runs : {script : Sections} (caller first : ℕ) (each : List LaneRun) (part : List Entry) → first ≤ caller → AreLanes script Never first each part → AreRuns script caller (by caller part)
lanes-runs {script} caller first [] part less a =
    subst (AreRuns script caller) (sym (none-by caller part (All-weaker (IsBelow first) (IsNotBy caller) (λ e b q. absurd (omega (arith, b, q, less))) part a))) none
lanes-runs {script} caller first (lane ∷ more) part less a = go (cases_eq first caller) (lanes-runs caller (first + 1) more part)
  where
    go : (first ≡ caller) ⊎ (first ≡ caller → ⊥) → (first + 1 ≤ caller → AreLanes script Never (first + 1) more part → AreRuns script caller (by caller part)) → AreRuns script caller (by caller part)
    go (inl e) ih = subst (λ c. AreRuns script c (by c part)) e (lane-runs a.0)
    go (inr n) ih = ih (omega (arith, n, less)) a.1

-- one more run, of whichever caller
run-more : {script : Sections} (caller other : ℕ) (line : Line) (entries rest : List Entry) → IsRunOf script caller line entries → AreRuns script other (by other rest) → AreRuns script other (by other (entries ++ rest))
run-more {script} caller other line entries rest r x = go (cases_eq caller other)
  where
    both : by other (entries ++ rest) ≡ by other entries ++ by other rest
    both = filter-append (is_by other) entries rest

    go : (caller ≡ other) ⊎ (caller ≡ other → ⊥) → AreRuns script other (by other (entries ++ rest))
    go (inl e) =
        subst (AreRuns script other) (sym (both ∙ ap (λ l. l ++ by other rest) (run-by other line entries (subst (λ c. AreTagged c line entries) e r.tagged))))
        (next (subst (λ c. IsRunOf script c line entries) e r) x)
    go (inr n) = subst (AreRuns script other) (sym (both ∙ ap (λ l. l ++ by other rest) (run-not-by caller other line entries n r.tagged))) x

-- each caller's entries are whole runs: where one caller's lines each ran,
pub lane-callers : {script : Sections} (caller : ℕ) {was_cut : Bool} {lines : List Line} {history : List Entry} → Lane script Never caller was_cut lines history → (other : ℕ) → AreRuns script other (by other history)
lane-callers caller over other = none
lane-callers caller (ran {line = line} {entries = entries} {rest = rest} r x) other = run-more caller other line entries rest r (lane-callers caller x other)
lane-callers caller (cut r never) other = absurd never

-- and where all the blocks of a session did
pub makes-runs : {script : Sections} {first : ℕ} {more : List Block} {history : List Entry} → Makes script Never first more history → 1 ≤ first → (caller : ℕ) → AreRuns script caller (by caller history)
makes-runs over less caller = none
makes-runs (ran {line = line} {entries = entries} {rest = rest} r x) less caller = run-more 0 caller line entries rest r (makes-runs x less caller)
makes-runs (cut r never) less caller = absurd never
makes-runs {script} {first = first} (lanes each part {rest = rest} from a none_cut x) less caller = go (cases_le first caller) (makes-runs x (omega (arith, less)) caller)
  where
    both : by caller (part ++ rest) ≡ by caller part ++ by caller rest
    both = filter-append (is_by caller) part rest

    go : (first ≤ caller) ⊎ (caller < first) → AreRuns script caller (by caller rest) → AreRuns script caller (by caller (part ++ rest))
    go (inl le) ih = subst (AreRuns script caller) (sym both) (runs-append (lanes-runs caller first each part le a) ih)
    go (inr lt) ih = subst (AreRuns script caller) (sym (both ∙ ap (λ l. l ++ by caller rest)
        (none-by caller part (All-weaker (IsFrom first) (IsNotBy caller) (λ e b q. absurd (omega (arith, b, q, lt))) part from)))) ih
makes-runs {script} {first = first} (lanes_cut each part from a was_cut) less caller = go (cases_le first caller)
  where
    go : (first ≤ caller) ⊎ (caller < first) → AreRuns script caller (by caller part)
    go (inl le) = lanes-runs caller first each part le a
    go (inr lt) = subst (AreRuns script caller) (sym (none-by caller part (All-weaker (IsFrom first) (IsNotBy caller) (λ e b q. absurd (omega (arith, b, q, lt))) part from))) none

-- ---- what is due of runs

abbrev pub calls_of : List Entry → List Call
calls_of entries = map call_of entries

-- a run's entries, all tagged alike, with what is due of them and of the entries behind them
pub bound-of : (after : List Bracket → Type 0) (caller : ℕ) (line : Line) (entries rest : List Entry) (own : List Bracket) → AreTagged caller line entries →
    AreDue after own (entries ++ rest) → AreBound MAX_BRACKETS (record { caller = caller; command = line.number }) (λ end. AreDue after end rest) own (calls_of entries)
bound-of after caller line [] rest own t d = d
bound-of after caller line (e ∷ more) rest own t d =
    let tag : Tag = record { caller = caller; command = line.number } in
    let same : e.tag ≡ tag = All-head (HasTag caller line) e more t in (
      subst (λ g. IsBound MAX_BRACKETS g own (call_of e)) same d.0,
      bound-of after caller line more rest (own_turned tag (opens e.op e.reply) (own_closes tag e.op own) own) (All-tail (HasTag caller line) e more t)
          (subst (λ g. AreDue after (own_turned g (opens e.op e.reply) (own_closes g e.op own) own) (more ++ rest)) same d.1),
    )

-- a whole run leaves the brackets that it found
pub run-closed : {script : Sections} {caller : ℕ} {line : Line} (after : List Bracket → Type 0) (entries rest : List Entry) → IsRunOf script caller line entries → AreDue after [] (entries ++ rest) → AreDue after [] rest
run-closed {script} {caller} {line} after entries rest r d =
    let tag : Tag = record { caller = caller; command = line.number } in
    let then : List Bracket → Type 0 = λ end. AreDue after end rest in
    let due = bound-of after caller line entries rest [] r.tagged d in
    balanced MAX_BRACKETS tag then r.follows.jobs None [] refl (balanced MAX_BRACKETS tag then r.follows.plan None [] (closes-plan system r.command) due)
