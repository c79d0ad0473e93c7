-- What the row of a bundle says of it, at a moment that the table stands for.
use Rattle.std.proofs.Common.{◌≡◌, ◌≢◌, ℕ, List, ap, sym, ◌∙◌, refl}
use Rattle.std.specs.Prelude.{◌==◌, Bool, true, false, cond, Option, None, Some}
use Rattle.std.proofs.lemmas.Bool.{eq-eqb}
use Rattle.osgi_base.specs.declared.ids.BundleId.{BundleId}
use Rattle.osgi_bundle.specs.Rows.{has_bundle_id, MayStart, row_at, TableRows}
use Rattle.osgi_bundle.specs.Stands.{StandsFor}
use Rattle.osgi_bundle.specs.Targets.{IsTargetRow}
use Rattle.osgi_bundle.specs.laws.OneBundle.{found_row, gone, row_by, row_fragment, row_live, row_number_of, row_state, says_row, SaysRow}
use Rattle.osgi_bundle.specs.declared.kept.BundleKept.{BundleKept}
use Rattle.osgi_stage.proofs.Facts.{row-at}
use Rattle.osgi_stage.proofs.Rows.{fragment-at}
use Rattle.osgi_ops.specs.Bundles as phases
use Rattle.osgi_ops.specs.Bundles.{Active, is_active, is_changing, is_live, last_begin, number_of, Phase, phase, Resolved, row_of, running, Starting, State, Stopping, Uninstalled, Unresolved}
use Rattle.osgi_ops.specs.Conditions.{state_of}
use Rattle.osgi_legal.specs.Legal.{IsTold}
use Rattle.osgi_ops.specs.Moments.{Moment}
use Rattle.osgi_ops.specs.Resolved.{is_fragment_bundle, is_resolved}
use Rattle.osgi_ops.specs.States.{is_changing as is_changing_number}
use Rattle.osgi_ops.specs.declared.state.TheConstants.{ACTIVE, INSTALLED, RESOLVED, STARTING, STOPPING}
use Rattle.osgi_ops.specs.declared.target.Target.{Target}
use Rattle.osgi_ops.specs.declared.target.Target.TheVariants.{Id, Name}
use Rattle.osgi_ops.specs.laws.Items.{contains-In, find-some}
use Rattle.osgi_tables.proofs.DepotRows.{depot_row}

-- ---- states by their numbers

abbrev of_number : ℕ → State
of_number n =
    cond (n == INSTALLED) Unresolved (cond (n == RESOLVED) Resolved (cond (n == STARTING) Starting (cond (n == STOPPING) Stopping (cond (n == ACTIVE) Active Uninstalled))))

number_back : (s : State) → of_number (number_of s) ≡ s
number_back Uninstalled = refl
number_back Unresolved = refl
number_back Resolved = refl
number_back Starting = refl
number_back Stopping = refl
number_back Active = refl

-- states of one number are the same
pub same_state : (s t : State) → number_of s ≡ number_of t → s ≡ t
same_state s t same = sym (number_back s) ∙ ap of_number same ∙ number_back t

pub same_changing : (s : State) → is_changing_number (number_of s) ≡ is_changing s
same_changing Uninstalled = refl
same_changing Unresolved = refl
same_changing Resolved = refl
same_changing Starting = refl
same_changing Stopping = refl
same_changing Active = refl

-- a live bundle is resolved where it is none of the rest
resolved_else : (s : State) → s ≢ Uninstalled → number_of s ≢ INSTALLED → is_changing_number (number_of s) ≡ false → number_of s ≢ ACTIVE → s ≡ Resolved
resolved_else Uninstalled there i rests a = absurd (there refl)
resolved_else Unresolved there i rests a = absurd (i refl)
resolved_else Resolved there i rests a = refl
resolved_else Starting there i rests a = absurd (cc rests)
resolved_else Stopping there i rests a = absurd (cc rests)
resolved_else Active there i rests a = absurd (a refl)

down_else : (s : State) → number_of s ≢ ACTIVE → is_active s ≡ false
down_else Uninstalled not = refl
down_else Unresolved not = refl
down_else Resolved not = refl
down_else Starting not = refl
down_else Stopping not = refl
down_else Active not = absurd (not refl)

-- ---- states at a moment

live_by : (own : Bool) (p : Phase) (resolved : Bool) → cond own Active (running p resolved) ≢ Uninstalled
live_by true p resolved e = cc e
live_by false phases.idle true e = cc e
live_by false phases.idle false e = cc e
live_by false phases.starting resolved e = cc e
live_by false phases.active resolved e = cc e
live_by false phases.stopping resolved e = cc e

live_there : (now : Moment) (b : BundleId) → is_live b now.before ≡ true → state_of now b ≢ Uninstalled
live_there now b live e =
    let p = phase b now.before in
    let resolved = is_resolved now.world b in
    live_by (b.0 == 0) p resolved (ap (λ t. cond (b.0 == 0) Active (cond t (running p resolved) Uninstalled)) (sym live) ∙ e)

-- ---- rows

-- the bundle is live, and the row has its state, whose line last began to start or to stop it, and what it comes from
pub record IsRowAt (now : Moment) (b : BundleId) (row : BundleKept) : Type 0 where
  pub live : is_live b now.before ≡ true
  pub state : row.state ≡ number_of (state_of now b)
  pub by : row.by ≡ last_begin b now.before
  pub fragment : row.fragment ≡ is_fragment_bundle now.world b
  pub depot_row : row.row ≡ row_of now.setting.depot now.before b

-- the row of a bundle is that of a live one
pub row_there : (now : Moment) → IsTold now → (table : TableRows) (b : BundleId) (row : BundleKept) → StandsFor now.setting.depot now.before now.world table → row_at b table.rows ≡ Some row → IsRowAt now b row
row_there now told table b row stands is =
    let depot = now.setting.depot in
    let of = found_row depot now.before now.world table b row stands is in
    record {
      live = row_live depot now.before now.world b row of;
      state = row_state depot now.before now.world b row of;
      by = row_by depot now.before now.world b row of;
      fragment = row_fragment depot now.before now.world b row of (fragment-at now told);
      depot_row = row_number_of depot now.before now.world b row of (λ c there. sym (depot_row depot now.before c there));
    }

-- a live bundle has a row
pub row_gone : (now : Moment) → IsTold now → (table : TableRows) (b : BundleId) → StandsFor now.setting.depot now.before now.world table → row_at b table.rows ≡ None → is_live b now.before ≡ false
row_gone now told table b stands none = by (row_at b table.rows) (says_row now.setting.depot now.before now.world table b stands (row-at now told)) none
  where
    by : (o : Option BundleKept) → SaysRow now.setting.depot now.before now.world b o → o ≡ None → is_live b now.before ≡ false
    by None (gone dead) e = dead
    by (Some row) said e = absurd (cc e)

-- so has one that a target stands for
pub target_has_row : (target : Target) (rows : List BundleKept) (b : BundleId) → IsTargetRow target rows b → row_at b rows ≢ None
target_has_row (Id id) rows b is none = is.1 (ap (λ x. row_at x rows) (sym is.0) ∙ none)
target_has_row (Name name) rows b is none =
    let found = find-some (has_bundle_id b) rows is.row (contains-In rows is.row is.live) (eq-eqb is.row.bundle.0 b.0 (ap (λ (x : BundleId). x.0) is.is)) in
    let bad : Some found.0 ≡ None = sym found.1 ∙ none in
    cc bad

-- ---- the state that a row says

pub state_is : {now : Moment} {b : BundleId} {row : BundleKept} (s : State) → IsRowAt now b row → row.state ≡ number_of s → state_of now b ≡ s
state_is {now = now} {b = b} s is number = same_state (state_of now b) s (sym is.state ∙ number)

pub changing_at : {now : Moment} {b : BundleId} {row : BundleKept} {k : Bool} → IsRowAt now b row → is_changing_number row.state ≡ k → is_changing (state_of now b) ≡ k
changing_at {now = now} {b = b} is changing = sym (same_changing (state_of now b)) ∙ ap is_changing_number (sym is.state) ∙ changing

pub down_at : {now : Moment} {b : BundleId} {row : BundleKept} → IsRowAt now b row → row.state ≢ ACTIVE → is_active (state_of now b) ≡ false
down_at {now = now} {b = b} is down = down_else (state_of now b) (λ same. down (is.state ∙ same))

-- a bundle whose start may begin is resolved
pub resolved_rest : {now : Moment} {b : BundleId} {row : BundleKept} → IsRowAt now b row → MayStart row → state_of now b ≡ Resolved
resolved_rest {now = now} {b = b} is may =
    resolved_else (state_of now b) (live_there now b is.live) (λ same. may.1 (is.state ∙ same)) (ap is_changing_number (sym is.state) ∙ may.2) (λ same. may.3 (is.state ∙ same))
