-- What the begin of a stop is answered.
use Rattle.std.proofs.Common.{◌≡◌, ◌≢◌, ℕ, inl, inr, ap, sym, subst, ◌∙◌, refl}
use Rattle.std.specs.Prelude.{◌==◌, Bool, true, false, cond, [], ◌∷◌, Contains, None, Option, Some, IsSomeAnd}
use Rattle.std.proofs.lemmas.Bool.{cond-false, eq-eqb}
use Rattle.osgi_base.specs.Verdict.{answers, Gives, refuses, Verdict, Where}
use Rattle.osgi_base.specs.declared.ids.BundleId.{BundleId}
use Rattle.osgi_base.specs.declared.ids.Tag.{Tag}
use Rattle.osgi_brackets.specs.Open.{HoldsMost}
use Rattle.osgi_bundle.specs.Rows.{IsInNoChange, IsStoppable, row_at, stop_refusals, StopBegins}
use Rattle.osgi_bundle.specs.Targets.{IsTargetRow}
use Rattle.osgi_bundle.specs.declared.kept.BundleKept.{BundleKept}
use Rattle.osgi_bundle.specs.declared.life.Begun.{Begun}
use Rattle.osgi_bundle.specs.declared.life.Begun.TheVariants.{Already, Run}
use Rattle.osgi_bundle.specs.laws.OneBundle.{rows_of_target, target_of_rows}
use Rattle.osgi_legal.specs.Quiet.{QuietServices}
use Rattle.osgi_stage.proofs.Current.{up-resolved}
use Rattle.osgi_stage.proofs.Facts.{row-at}
use Rattle.osgi_stage.proofs.Stage.{never-refreshing, never-waits}
use Rattle.osgi_legal.proofs.Targets.{no-target}
use Rattle.osgi_ops.specs.Brackets.{stopping as stop_of}
use Rattle.osgi_ops.specs.Bundles.{Active, is_active, is_changing, is_up, row_of, stopping, system}
use Rattle.osgi_ops.specs.Conditions.{at_target, IsDeep, is_system, IsTarget, refreshing_where, state_change, state_of}
use Rattle.osgi_legal.specs.Legal.{IsTold}
use Rattle.osgi_ops.specs.Moments.{Moment}
use Rattle.osgi_legal.specs.Operations.{IsReply}
use Rattle.osgi_ops.specs.Waiting.{is_waiting}
use Rattle.osgi_ops.specs.Replies.{took_effect, verdict}
use Rattle.osgi_ops.specs.States.{is_changing as is_changing_number}
use Rattle.osgi_ops.specs.declared.asked.Asked.{Asked}
use Rattle.osgi_ops.specs.declared.op.Op.TheVariants as op
use Rattle.osgi_ops.specs.declared.refusal.Refusal.{Refusal}
use Rattle.osgi_ops.specs.declared.refusal.Refusal.TheVariants as no
use Rattle.osgi_ops.specs.declared.reply.Reply.{Reply}
use Rattle.osgi_ops.specs.declared.reply.Reply.TheVariants as answer
use Rattle.osgi_ops.specs.declared.state.TheConstants.{ACTIVE}
use Rattle.osgi_ops.specs.declared.target.Target.{Target}
use Rattle.osgi_legal.specs.laws.Stages.{row-here}
use Rattle.osgi_ops.specs.rows.Life.{BeginStopAnswers}
use Rattle.osgi_tables.proofs.Living.{deep_at, IsBeginOf, replied_begun, shallow_at}
use Rattle.osgi_tables.proofs.Replying.{decided_refused, decided_same, of_services}
use Rattle.osgi_tables.proofs.Shown.{one_shown}
use Rattle.osgi_tables.specs.Changes.{happened, IsReplyAndChange}
use Rattle.osgi_tables.specs.Replied.{EachTime}
use Rattle.osgi_tables.specs.declared.change.Change.TheVariants as change
use Rattle.osgi_tables.specs.declared.tables.Tables.{Tables}
use Rattle.osgi_reply_life.proofs.Conditions.{changed_by, not_at, says_nothing, SaysChange}
use Rattle.osgi_reply_life.proofs.Idle.{IsIdle, replied_idle}
use Rattle.osgi_reply_life.proofs.Rows.{changing_at, down_at, row_there, state_is, target_has_row}

-- ---- at a moment

stop_missing : (now : Moment) (target : Target) (transient : Bool) → ((b : BundleId) → ¬ IsTarget now target b) → IsReply now (op.BeginStop target transient) (answer.Refused no.NoSuchBundle)
stop_missing now target transient none =
    row-here now (op.BeginStop target transient) (answer.Refused no.NoSuchBundle) refl (inl (no.NoSuchBundle, (refl, λ some. none some.0 some.1), refl))

-- a refresh that another line began has the bundle, and has dropped no wirings yet
abbrev of_others : Moment → BundleId → Refusal → Type 0
of_others now b = refreshing_where now (λ r. (r.dropped ≡ false) × Contains r.members b × (r.tag ≢ now.tag))

-- the bundle is active, and the caller has too many brackets open
abbrev too_deep : Moment → BundleId → Refusal → Type 0
too_deep now b = Where no.TooDeep ((is_active (state_of now b) ≡ true) × IsDeep now)

module _ (now : Moment) (told : IsTold now) (target : Target) (transient : Bool) (b : BundleId) (at : IsTarget now target b) where
  stop_system : b ≡ system → IsReply now (op.BeginStop target transient) (answer.Refused no.InvalidOperation)
  stop_system own = row-here now (op.BeginStop target transient) (answer.Refused no.InvalidOperation) refl (inr (no-target now target b at, inl (no.InvalidOperation, (b, at, (refl, own)), refl)))

  -- past the first refusals
  stop_other : (reply : Reply) → b ≢ system → Gives (at_target now target (state_change is_changing now) ∷ at_target now target (too_deep now) ∷ []) (BeginStopAnswers now target) (verdict reply) → IsReply now (op.BeginStop target transient) reply
  stop_other reply other rest =
      row-here now (op.BeginStop target transient) reply refl
      (inr (
        no-target now target b at,
        inr (not_at now target b is_system at (λ f called. other called.1), inr (not_at now target b (of_others now) at (λ f called. never-refreshing now told _ f called), rest)),
      ))

  stop_changing : (f : Refusal) → b ≢ system → state_change is_changing now b f → IsReply now (op.BeginStop target transient) (answer.Refused f)
  stop_changing f other changes = stop_other (answer.Refused f) other (inl (f, (b, at, changes), refl))

  -- past all but that of the depth
  stop_resting : (reply : Reply) → b ≢ system → is_changing (state_of now b) ≡ false → Gives (at_target now target (too_deep now) ∷ []) (BeginStopAnswers now target) (verdict reply) → IsReply now (op.BeginStop target transient) reply
  stop_resting reply other rests rest =
      stop_other reply other (inr (not_at now target b (state_change is_changing now) at (λ f called. (let bad : true ≡ false = sym called.0 ∙ rests in cc bad)), rest))

  stop_idle : b ≢ system → is_changing (state_of now b) ≡ false → is_active (state_of now b) ≡ false → IsReply now (op.BeginStop target transient) (answer.Idle b)
  stop_idle other rests down =
      stop_resting (answer.Idle b) other rests
      (inr (
        not_at now target b (too_deep now) at (λ f called. (let bad : true ≡ false = sym called.1.0 ∙ down in cc bad)),
        (b, at, sym (ap (λ k. cond k (answer.Begun b (row_of now.setting.depot now.before b)) (answer.Idle b)) down)),
      ))

  stop_deep : b ≢ system → state_of now b ≡ Active → IsDeep now → IsReply now (op.BeginStop target transient) (answer.Refused no.TooDeep)
  stop_deep other is deep = stop_resting (answer.Refused no.TooDeep) other (ap is_changing is) (inl (no.TooDeep, (b, at, (refl, (ap is_active is, deep))), refl))

  stop_begun : (row : ℕ) → row ≡ row_of now.setting.depot now.before b → b ≢ system → state_of now b ≡ Active → ¬ IsDeep now → IsReply now (op.BeginStop target transient) (answer.Begun b row)
  stop_begun row same other is shallow =
      stop_resting (answer.Begun b row) other (ap is_changing is)
      (inr (
        not_at now target b (too_deep now) at (λ f called. shallow called.1.1),
        (b, at, sym (λ i. cond (is_active (is i)) (answer.Begun b (sym same i)) (answer.Idle b))),
      ))

-- ---- what is decided

abbrev begin_stop : Tag → Target → Bool → Asked
begin_stop tag target transient = record { tag = tag; op = op.BeginStop target transient }

-- a begin says nothing of services
begin_services : (target : Target) (transient : Bool) (reply : Reply) → QuietServices (op.BeginStop target transient) reply
begin_services target transient reply = record { registered = λ n since. refl; taken = λ s owner. refl; given = λ s. refl; got = λ u s. refl; let_go = λ u s. refl; cleaned = refl; made = λ tag opened. refl }

idle_stop : (target : Target) (transient : Bool) (b : BundleId) → IsIdle (op.BeginStop target transient) (answer.Idle b)
idle_stop target transient b = record {
  others = of_services (op.BeginStop target transient) (answer.Idle b) (λ n since. refl) (λ c. refl) (λ c. refl) refl (λ c. refl) refl refl refl (λ l. refl) refl refl (λ now world same. same);
  services = begin_services target transient (answer.Idle b);
  none = λ now told after e. cond-false (is_waiting b now.before) _ [] (never-waits now told b);
}

begins_stop : (target : Target) (transient : Bool) (b : BundleId) (row : ℕ) → IsBeginOf stopping (stop_of b) b (op.BeginStop target transient) (answer.Begun b row)
begins_stop target transient b row = record {
  puts = λ c. refl;
  bundles = record { installed = λ n since. refl; gone = λ c. refl; updated = λ c. refl; brings = refl };
  services = begin_services target transient (answer.Begun b row);
  keeps = record { heard = refl; hands = record { handed = λ l. refl; counted = refl } };
  jobs = refl;
  opened = refl;
  no_end = refl;
  leaves = λ now world same. same;
}

-- what the table answers, by the row that the bundle has
abbrev StopGives : BundleId → Option BundleKept → Verdict Refusal Begun → Type 0
StopGives b o v =
    Gives
    (Where no.NoSuchBundle (o ≡ None)
    ∷ Where no.InvalidOperation (b ≡ system)
    ∷ (λ f. IsSomeAnd o (λ (r : BundleKept). (is_changing_number r.state ≡ true) × SaysChange r.by f))
    ∷ [])
    (λ begun. IsSomeAnd o (λ (r : BundleKept). begun ≡ cond (r.state == ACTIVE) (Run r.row) Already)) v

module _ (tables : Tables) (tag : Tag) (target : Target) (transient : Bool) where
  refused_stop : (f : Refusal) → took_effect (answer.Refused f) ≡ false → EachTime (begin_stop tag target transient) tables (λ now. IsReply now (op.BeginStop target transient) (answer.Refused f)) →
      IsReplyAndChange (begin_stop tag target transient) tables (answer.Refused f) change.Nothing
  refused_stop f none due = decided_refused (begin_stop tag target transient) tables f none due

  pub decided_stop_missing : ((b : BundleId) → ¬ IsTargetRow target tables.bundles.rows b) → IsReplyAndChange (begin_stop tag target transient) tables (answer.Refused no.NoSuchBundle) change.Nothing
  decided_stop_missing none = refused_stop no.NoSuchBundle refl (λ now at stood. stop_missing now target transient (λ b is. none b (rows_of_target now tables.bundles stood.bundles target b (row-at now at.told) is)))

  module _ (b : BundleId) (row : BundleKept) (names : IsTargetRow target tables.bundles.rows b) (is : row_at b tables.bundles.rows ≡ Some row) where
    decided_row_system : b ≡ system → IsReplyAndChange (begin_stop tag target transient) tables (answer.Refused no.InvalidOperation) change.Nothing
    decided_row_system own =
        refused_stop no.InvalidOperation refl
        (λ now at stood. stop_system now at.told target transient b (target_of_rows now tables.bundles stood.bundles target b (row-at now at.told) names) own)

    decided_row_changing : (f : Refusal) → b ≢ system → is_changing_number row.state ≡ true → SaysChange row.by f → IsReplyAndChange (begin_stop tag target transient) tables (answer.Refused f) change.Nothing
    decided_row_changing f other changing says =
        refused_stop f (says_nothing row.by f says)
        (λ now at stood.
        let of = row_there now at.told tables.bundles b row stood.bundles is in
        stop_changing now at.told target transient b (target_of_rows now tables.bundles stood.bundles target b (row-at now at.told) names) f other
        (changed_by now b row f of (changing_at of changing) says))

    decided_row_idle : b ≢ system → is_changing_number row.state ≡ false → row.state ≢ ACTIVE → IsReplyAndChange (begin_stop tag target transient) tables (answer.Idle b) change.Nothing
    decided_row_idle other rests down =
        decided_same (begin_stop tag target transient) tables (answer.Idle b) refl
        (replied_idle (begin_stop tag target transient) tables (answer.Idle b) (idle_stop target transient b)
        (λ now at stood.
        let of = row_there now at.told tables.bundles b row stood.bundles is in
        stop_idle now at.told target transient b (target_of_rows now tables.bundles stood.bundles target b (row-at now at.told) names) other (changing_at of rests) (down_at of down)))

    decided_row_deep : b ≢ system → row.state ≡ ACTIVE → HoldsMost tag.caller tables.brackets → IsReplyAndChange (begin_stop tag target transient) tables (answer.Refused no.TooDeep) change.Nothing
    decided_row_deep other active most =
        refused_stop no.TooDeep refl
        (λ now at stood.
        let of = row_there now at.told tables.bundles b row stood.bundles is in
        stop_deep now at.told target transient b (target_of_rows now tables.bundles stood.bundles target b (row-at now at.told) names) other (state_is Active of active)
        (deep_at (begin_stop tag target transient) tables now at stood most))

    decided_row_begun : b ≢ system → row.state ≡ ACTIVE → ¬ HoldsMost tag.caller tables.brackets → IsReplyAndChange (begin_stop tag target transient) tables (answer.Begun b row.row) (change.BeginStop tag b)
    decided_row_begun other active fewer = record {
      possible = (other, subst (λ o. IsSomeAnd o (λ (r : BundleKept). r.state ≡ ACTIVE)) (sym is) active);
      cleans = refl;
      answered = λ new changed.
          replied_begun (begin_stop tag target transient) tables new (answer.Begun b row.row) stopping (stop_of b) b (happened (change.BeginStop tag b) tables.registry tables.bundles) (begins_stop target transient b row.row)
          (λ now at stood.
          let of = row_there now at.told tables.bundles b row stood.bundles is in
          stop_begun now at.told target transient b (target_of_rows now tables.bundles stood.bundles target b (row-at now at.told) names) row.row of.depot_row other (state_is Active of active)
          (shallow_at (begin_stop tag target transient) tables now at stood fewer))
          (λ now at stood. let of = row_there now at.told tables.bundles b row stood.bundles is in up-resolved now at.told b (ap is_up (state_is Active of active)))
          (λ now at stood. one_shown 256 now tables at.told stood b row is) changed;
    }

  -- ---- as the table of bundles decides

  module _ (b : BundleId) (names : IsTargetRow target tables.bundles.rows b) where
    refused_by_row : (o : Option BundleKept) → row_at b tables.bundles.rows ≡ o → (f : Refusal) → StopGives b o (refuses f) → IsReplyAndChange (begin_stop tag target transient) tables (answer.Refused f) change.Nothing
    refused_by_row o is f (inl (g, called, same)) = absurd (target_has_row target tables.bundles.rows b names (is ∙ called.1))
    refused_by_row None is f given = absurd (target_has_row target tables.bundles.rows b names is)
    refused_by_row (Some row) is f (inr (there, inl (g, called, same))) =
        let f_is : f ≡ g = cc same in
        subst (λ h. IsReplyAndChange (begin_stop tag target transient) tables (answer.Refused h) change.Nothing) (sym (f_is ∙ called.0)) (decided_row_system b row names is called.1)
    refused_by_row (Some row) is f (inr (there, inr (valid, inl (g, called, same)))) =
        let f_is : f ≡ g = cc same in
        subst (λ h. IsReplyAndChange (begin_stop tag target transient) tables (answer.Refused h) change.Nothing) (sym f_is)
        (decided_row_changing b row names is g (λ own. valid no.InvalidOperation (refl, own)) called.0 called.1)
    refused_by_row (Some row) is f (inr (there, inr (valid, inr (still, none)))) = absurd none

    idle_by_row : (o : Option BundleKept) → row_at b tables.bundles.rows ≡ o → StopGives b o (answers Already) → IsSomeAnd o (λ (r : BundleKept). is_changing_number r.state ≡ false) → IsReplyAndChange (begin_stop tag target transient) tables (answer.Idle b) change.Nothing
    idle_by_row o is (inl (g, called, same)) settled = absurd (cc same)
    idle_by_row o is (inr (there, inl (g, called, same))) settled = absurd (cc same)
    idle_by_row o is (inr (there, inr (valid, inl (g, called, same)))) settled = absurd (cc same)
    idle_by_row None is (inr (there, inr (valid, inr (still, due)))) settled = absurd due
    idle_by_row (Some row) is (inr (there, inr (valid, inr (still, due)))) settled = decided_row_idle b row names is (λ own. valid no.InvalidOperation (refl, own)) settled down
      where
        down : row.state ≢ ACTIVE
        down active =
            let bad : Already ≡ Run row.row = due ∙ ap (λ k. cond k (Run row.row) Already) (eq-eqb row.state ACTIVE active) in
            cc bad

    deep_by_row : (o : Option BundleKept) → row_at b tables.bundles.rows ≡ o → b ≢ system → IsSomeAnd o (λ (r : BundleKept). r.state ≡ ACTIVE) → HoldsMost tag.caller tables.brackets →
        IsReplyAndChange (begin_stop tag target transient) tables (answer.Refused no.TooDeep) change.Nothing
    deep_by_row None is other active most = absurd active
    deep_by_row (Some row) is other active most = decided_row_deep b row names is other active most

    begun_by_row : (o : Option BundleKept) → row_at b tables.bundles.rows ≡ o → (number : ℕ) → StopGives b o (answers (Run number)) → b ≢ system → IsSomeAnd o (λ (r : BundleKept). r.state ≡ ACTIVE) → ¬ HoldsMost tag.caller tables.brackets →
        IsReplyAndChange (begin_stop tag target transient) tables (answer.Begun b number) (change.BeginStop tag b)
    begun_by_row o is number (inl (g, called, same)) other active fewer = absurd (cc same)
    begun_by_row o is number (inr (there, inl (g, called, same))) other active fewer = absurd (cc same)
    begun_by_row o is number (inr (there, inr (valid, inl (g, called, same)))) other active fewer = absurd (cc same)
    begun_by_row None is number (inr (there, inr (valid, inr (still, due)))) other active fewer = absurd active
    begun_by_row (Some row) is number (inr (there, inr (valid, inr (still, due)))) other active fewer =
        let run : Run number ≡ Run row.row = due ∙ ap (λ k. cond k (Run row.row) Already) (eq-eqb row.state ACTIVE active) in
        let same : number ≡ row.row = cc run in
        subst (λ n. IsReplyAndChange (begin_stop tag target transient) tables (answer.Begun b n) (change.BeginStop tag b)) (sym same) (decided_row_begun b row names is other active fewer)

    pub decided_stop_refused : (f : Refusal) → Gives (stop_refusals b tables.bundles.rows) (StopBegins b tables.bundles.rows) (refuses f) → IsReplyAndChange (begin_stop tag target transient) tables (answer.Refused f) change.Nothing
    decided_stop_refused f given = refused_by_row (row_at b tables.bundles.rows) refl f given

    pub decided_stop_idle : Gives (stop_refusals b tables.bundles.rows) (StopBegins b tables.bundles.rows) (answers Already) → IsInNoChange b tables.bundles.rows → IsReplyAndChange (begin_stop tag target transient) tables (answer.Idle b) change.Nothing
    decided_stop_idle given settled = idle_by_row (row_at b tables.bundles.rows) refl given settled

    pub decided_stop_deep : IsStoppable b tables.bundles.rows → HoldsMost tag.caller tables.brackets → IsReplyAndChange (begin_stop tag target transient) tables (answer.Refused no.TooDeep) change.Nothing
    decided_stop_deep may most = deep_by_row (row_at b tables.bundles.rows) refl may.0 may.1 most

    pub decided_stop_begun : (number : ℕ) → Gives (stop_refusals b tables.bundles.rows) (StopBegins b tables.bundles.rows) (answers (Run number)) → IsStoppable b tables.bundles.rows → ¬ HoldsMost tag.caller tables.brackets →
        IsReplyAndChange (begin_stop tag target transient) tables (answer.Begun b number) (change.BeginStop tag b)
    decided_stop_begun number given may fewer = begun_by_row (row_at b tables.bundles.rows) refl number given may.0 may.1 fewer
