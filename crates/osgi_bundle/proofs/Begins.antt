-- What starts and stops come to, by the row of the bundle.
use Rattle.std.proofs.Common.{◌≡◌, ◌⊎◌, inl, inr, ℕ, List, [], ◌∷◌, Result, Ok, Err, ap, sym, ◌∙◌, refl}
use Rattle.std.specs.Prelude.{◌==◌, Bool, true, false, cond, Option, None, Some, IsOkAnd, IsSomeAnd}
use Rattle.std.proofs.lemmas.Bool.{eq-eqb, ne_eqb}
use Rattle.osgi_base.specs.Verdict.{answers, Gives, Where}
use Rattle.osgi_base.specs.declared.ids.BundleId.{BundleId}
use Rattle.osgi_base.specs.declared.ids.Tag.{Tag}
use Rattle.osgi_bundle.specs.Rows.{IsInChange, IsInState, IsStartable, IsStoppable, MayStart, row_at, rows_begun, start_refusals, StartBegins, started_state, stop_refusals, StopBegins, TableRows, verdict_of, with_begun, with_state}
use Rattle.osgi_bundle.specs.Stands.{started_phase, StandsPut}
use Rattle.osgi_bundle.specs.declared.kept.BundleKept.{BundleKept}
use Rattle.osgi_bundle.specs.declared.life.Begun.{Begun}
use Rattle.osgi_bundle.specs.declared.life.Begun.TheVariants.{Already, Run}
use Rattle.osgi_bundle.specs.laws.Changes.{IsNoSystem, no_system, stands_ended}
use Rattle.osgi_ops.specs.Bundles as phases
use Rattle.osgi_ops.specs.Bundles.{system}
use Rattle.osgi_ops.specs.declared.refusal.Refusal.{Refusal}
use Rattle.osgi_ops.specs.declared.refusal.Refusal.TheVariants.{InvalidOperation, NoSuchBundle, StateChange}
use Rattle.osgi_ops.specs.declared.state.TheConstants.{ACTIVE, INSTALLED, RESOLVED}
use Rattle.osgi_ops.specs.States.{is_changing}

abbrev Change : Option BundleKept → Refusal → Type 0
Change o refusal = IsSomeAnd o (λ (row : BundleKept). (is_changing row.state ≡ true) × IsSomeAnd row.by (λ by. refusal ≡ StateChange by))

abbrev StartAnswer : Option BundleKept → Result Begun Refusal → Type 0
StartAnswer o r =
    Gives (Where NoSuchBundle (o ≡ None) ∷ Where InvalidOperation (IsSomeAnd o (λ (row : BundleKept). (row.fragment ≡ true) ⊎ (row.state ≡ INSTALLED))) ∷ Change o ∷ [])
    (λ begun. IsSomeAnd o (λ (row : BundleKept). begun ≡ cond (row.state == ACTIVE) Already (Run row.row))) (verdict_of r)

abbrev StopAnswer : BundleId → Option BundleKept → Result Begun Refusal → Type 0
StopAnswer id o r =
    Gives (Where NoSuchBundle (o ≡ None) ∷ Where InvalidOperation (id ≡ system) ∷ Change o ∷ [])
    (λ begun. IsSomeAnd o (λ (row : BundleKept). begun ≡ cond (row.state == ACTIVE) (Run row.row) Already)) (verdict_of r)

-- ---- what a begin that was answered says

start_due : (o : Option BundleKept) (begun : Begun) → StartAnswer o (Ok begun) → IsSomeAnd o (λ (row : BundleKept). begun ≡ cond (row.state == ACTIVE) Already (Run row.row))
start_due o begun (inl (refusal, called, same)) = absurd (cc same)
start_due o begun (inr (there, inl (refusal, called, same))) = absurd (cc same)
start_due o begun (inr (there, inr (valid, inl (refusal, called, same)))) = absurd (cc same)
start_due o begun (inr (there, inr (valid, inr (still, is)))) = is

not_active : (begun : Begun) (row : BundleKept) → ¬ (begun ≡ Already) → begun ≡ cond (row.state == ACTIVE) Already (Run row.row) → ¬ (row.state ≡ ACTIVE)
not_active begun row runs is active = runs (is ∙ ap (λ t. cond t Already (Run row.row)) (eq-eqb row.state ACTIVE active))

some_not_active : (begun : Begun) (o : Option BundleKept) → ¬ (begun ≡ Already) → IsSomeAnd o (λ (row : BundleKept). begun ≡ cond (row.state == ACTIVE) Already (Run row.row)) → IsSomeAnd o (λ (row : BundleKept). ¬ (row.state ≡ ACTIVE))
some_not_active begun None runs is = absurd is
some_not_active begun (Some row) runs is = not_active begun row runs is

-- a start that begins is not the system bundle's
pub start_apart : (id : BundleId) (table : TableRows) (begun : Begun) → Gives (start_refusals id table.rows) (StartBegins id table.rows) (answers begun) → ¬ (begun ≡ Already) → IsNoSystem id table
start_apart id table begun given runs = no_system id table (some_not_active begun (row_at id table.rows) runs (start_due (row_at id table.rows) begun given))

stop_other : (id : BundleId) (o : Option BundleKept) (begun : Begun) → StopAnswer id o (Ok begun) → ¬ (id ≡ system)
stop_other id o begun (inl (refusal, called, same)) own = cc same
stop_other id o begun (inr (there, inl (refusal, called, same))) own = cc same
stop_other id o begun (inr (there, inr (valid, more))) own = valid InvalidOperation (refl, own)

-- nor is a stop
pub stop_apart : (id : BundleId) (table : TableRows) (begun : Begun) → Gives (stop_refusals id table.rows) (StopBegins id table.rows) (answers begun) → IsNoSystem id table
stop_apart id table begun given depot history world stands own = stop_other id (row_at id table.rows) begun given (λ i. record { 0 = own i })

-- nor what is starting or stopping
pub state_apart : (id : BundleId) (table : TableRows) (state : ℕ) → ¬ (state ≡ ACTIVE) → IsInState state id table.rows → IsNoSystem id table
state_apart id table state other in_it = no_system id table (by (row_at id table.rows) in_it)
  where
    by : (o : Option BundleKept) → IsSomeAnd o (λ (row : BundleKept). row.state ≡ state) → IsSomeAnd o (λ (row : BundleKept). ¬ (row.state ≡ ACTIVE))
    by None is = absurd is
    by (Some row) is = λ active. other (sym is ∙ active)

-- what a line began is in the state that it began
pub in_state : (id : BundleId) (rows : List BundleKept) (state : ℕ) (tag : Tag) → IsInChange state tag id rows → IsInState state id rows
in_state id rows state tag change = by (row_at id rows) change
  where
    by : (o : Option BundleKept) → IsSomeAnd o (λ (row : BundleKept). (row.state ≡ state) × (row.by ≡ Some tag)) → IsSomeAnd o (λ (row : BundleKept). row.state ≡ state)
    by None is = absurd is
    by (Some row) is = is.0

-- a begin that ran has changed the rows
pub rows_run : (id : BundleId) (state : ℕ) (tag : Tag) (rows : List BundleKept) (begun : Begun) → ¬ (begun ≡ Already) → rows_begun id state tag rows begun ≡ with_begun id state tag rows
rows_run id state tag rows (Run row) runs = refl
rows_run id state tag rows Already runs = absurd (runs refl)

-- ---- what is possible begins

pub startable_apart : (id : BundleId) (table : TableRows) → IsStartable id table.rows → IsNoSystem id table
startable_apart id table startable = no_system id table (by (row_at id table.rows) startable)
  where
    by : (o : Option BundleKept) → IsSomeAnd o MayStart → IsSomeAnd o (λ (row : BundleKept). ¬ (row.state ≡ ACTIVE))
    by None is = absurd is
    by (Some row) is = is.3

pub stoppable_apart : (id : BundleId) (table : TableRows) → IsStoppable id table.rows → IsNoSystem id table
stoppable_apart id table stoppable depot history world stands own = stoppable.0 (λ i. record { 0 = own i })

start_runs : (row : BundleKept) (r : Result Begun Refusal) → MayStart row → StartAnswer (Some row) r → IsOkAnd r (λ begun. ¬ (begun ≡ Already))
start_runs row (Ok begun) may given = λ already.
    let is : begun ≡ Run row.row = start_due (Some row) begun given ∙ ap (λ t. cond t Already (Run row.row)) (ne_eqb row.state ACTIVE may.3) in
    let bad : Run row.row ≡ Already = sym is ∙ already in
    cc bad
start_runs row (Err refusal) may (inl (other, called, same)) = absurd (cc (called.1))
start_runs row (Err refusal) may (inr (there, inl (other, called, same))) = absurd (by called.1)
  where
    by : (row.fragment ≡ true) ⊎ (row.state ≡ INSTALLED) → ⊥
    by (inl is) = (let bad : true ≡ false = sym is ∙ may.0 in cc bad)
    by (inr is) = may.1 is
start_runs row (Err refusal) may (inr (there, inr (valid, inl (other, called, same)))) = absurd (let bad : true ≡ false = sym called.0 ∙ may.2 in cc bad)
start_runs row (Err refusal) may (inr (there, inr (valid, inr (still, is)))) = absurd is

pub start_possible : (id : BundleId) (rows : List BundleKept) (r : Result Begun Refusal) → Gives (start_refusals id rows) (StartBegins id rows) (verdict_of r) → IsStartable id rows → IsOkAnd r (λ begun. ¬ (begun ≡ Already))
start_possible id rows r given startable = by (row_at id rows) given startable
  where
    by : (o : Option BundleKept) → StartAnswer o r → IsSomeAnd o MayStart → IsOkAnd r (λ begun. ¬ (begun ≡ Already))
    by None answer is = absurd is
    by (Some row) answer is = start_runs row r is answer

stop_runs : (id : BundleId) (row : BundleKept) (r : Result Begun Refusal) → ¬ (id ≡ system) → row.state ≡ 32 → StopAnswer id (Some row) r → IsOkAnd r (λ begun. ¬ (begun ≡ Already))
stop_runs id row (Ok begun) apart state (inl (other, called, same)) = absurd (cc same)
stop_runs id row (Ok begun) apart state (inr (there, inl (other, called, same))) = absurd (cc same)
stop_runs id row (Ok begun) apart state (inr (there, inr (valid, inl (other, called, same)))) = absurd (cc same)
stop_runs id row (Ok begun) apart state (inr (there, inr (valid, inr (still, due)))) = λ already.
    let is : begun ≡ Run row.row = due ∙ ap (λ n. cond (n == 32) (Run row.row) Already) state in
    let bad : Run row.row ≡ Already = sym is ∙ already in
    cc bad
stop_runs id row (Err refusal) apart state (inl (other, called, same)) = absurd (cc (called.1))
stop_runs id row (Err refusal) apart state (inr (there, inl (other, called, same))) = absurd (apart called.1)
stop_runs id row (Err refusal) apart state (inr (there, inr (valid, inl (other, called, same)))) = absurd (let bad : false ≡ true = ap is_changing (sym state) ∙ called.0 in cc bad)
stop_runs id row (Err refusal) apart state (inr (there, inr (valid, inr (still, is)))) = absurd is

pub stop_possible : (id : BundleId) (rows : List BundleKept) (r : Result Begun Refusal) → Gives (stop_refusals id rows) (StopBegins id rows) (verdict_of r) → IsStoppable id rows → IsOkAnd r (λ begun. ¬ (begun ≡ Already))
stop_possible id rows r given stoppable = by (row_at id rows) given stoppable.1
  where
    by : (o : Option BundleKept) → StopAnswer id o r → IsSomeAnd o (λ (row : BundleKept). row.state ≡ 32) → IsOkAnd r (λ begun. ¬ (begun ≡ Already))
    by None answer is = absurd is
    by (Some row) answer is = stop_runs id row r stoppable.0 is answer

-- ---- ends

pub started_stands : (failed : Bool) (tag : Tag) (id : BundleId) (old new : TableRows) → IsNoSystem id old → new.rows ≡ with_state id (started_state failed) old.rows → new.issued ≡ old.issued → StandsPut (started_phase failed) tag id old new
started_stands true tag id old new apart rows issued = stands_ended phases.idle RESOLVED tag id old new refl (λ t. refl) apart rows issued
started_stands false tag id old new apart rows issued = stands_ended phases.active ACTIVE tag id old new refl (λ t. refl) apart rows issued
