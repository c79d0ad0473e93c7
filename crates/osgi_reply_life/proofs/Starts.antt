-- What a wish to start a bundle is answered, and the begin of a start.
use Rattle.std.proofs.Common.{◌≡◌, ◌≢◌, ◌⊎◌, ℕ, List, inl, inr, ap, sym, subst, ◌∙◌, refl}
use Rattle.std.specs.Prelude.{◌==◌, Bool, true, false, cond, [], ◌∷◌, None, Option, Some, IsSomeAnd}
use Rattle.std.proofs.lemmas.Bool.{eqb-true, ne_eqb}
use Rattle.osgi_base.specs.Verdict.{answers, Gives, refuses, Verdict, Where}
use Rattle.osgi_base.specs.declared.ids.BundleId.{BundleId}
use Rattle.osgi_base.specs.declared.ids.Tag.{Tag}
use Rattle.osgi_brackets.specs.Open.{HoldsMost}
use Rattle.osgi_bundle.specs.Rows.{IsStartable, MayStart, row_at, start_refusals, StartBegins}
use Rattle.osgi_bundle.specs.Targets.{IsTargetRow}
use Rattle.osgi_bundle.specs.declared.kept.BundleKept.{BundleKept}
use Rattle.osgi_bundle.specs.declared.life.Begun.{Begun}
use Rattle.osgi_bundle.specs.declared.life.Begun.TheVariants.{Already, Run}
use Rattle.osgi_bundle.specs.laws.OneBundle.{rows_of_target, target_of_rows}
use Rattle.osgi_legal.specs.Quiet.{QuietServices}
use Rattle.osgi_stage.proofs.Facts.{row-at}
use Rattle.osgi_stage.proofs.Stage.{never-above, never-kept, never-refreshing}
use Rattle.osgi_stage.proofs.StateReadings.{when-resolved}
use Rattle.osgi_legal.proofs.Targets.{no-target}
use Rattle.osgi_ops.specs.Brackets.{starting as start_of}
use Rattle.osgi_ops.specs.Bundles.{Active, is_active, is_changing, is_live, Resolved, row_of, starting, Unresolved}
use Rattle.osgi_ops.specs.Conditions.{at_target, invalid_where, is_kept, is_level_too_high, IsDeep, IsTarget, no_such_bundle, state_change, state_of}
use Rattle.osgi_legal.specs.Legal.{IsTold}
use Rattle.osgi_ops.specs.Moments.{Moment}
use Rattle.osgi_legal.specs.Operations.{IsReply}
use Rattle.osgi_ops.specs.Replies.{took_effect, verdict}
use Rattle.osgi_ops.specs.States.{is_changing as is_changing_number}
use Rattle.osgi_ops.specs.Resolved.{is_fragment_bundle}
use Rattle.osgi_ops.specs.declared.asked.Asked.{Asked}
use Rattle.osgi_ops.specs.declared.op.Op.TheVariants as op
use Rattle.osgi_ops.specs.declared.refusal.Refusal.{Refusal}
use Rattle.osgi_ops.specs.declared.refusal.Refusal.TheVariants as no
use Rattle.osgi_ops.specs.declared.reply.Reply.{Reply}
use Rattle.osgi_ops.specs.declared.reply.Reply.TheVariants as answer
use Rattle.osgi_ops.specs.declared.state.TheConstants.{ACTIVE, INSTALLED}
use Rattle.osgi_ops.specs.declared.target.Target.{Target}
use Rattle.osgi_legal.specs.laws.Stages.{row-here}
use Rattle.osgi_ops.specs.rows.Life.{BeginStartAnswers, start_transient, WishStartAnswers}
use Rattle.osgi_tables.proofs.Living.{deep_at, IsBeginOf, replied_begun, shallow_at}
use Rattle.osgi_tables.proofs.Replying.{decided_refused, decided_same, of_services, replied_refused}
use Rattle.osgi_tables.proofs.Shown.{one_shown}
use Rattle.osgi_tables.specs.Changes.{happened, IsReplyAndChange}
use Rattle.osgi_tables.specs.Replied.{EachTime, IsAnsweredToAll}
use Rattle.osgi_tables.specs.declared.change.Change.TheVariants as change
use Rattle.osgi_tables.specs.declared.tables.Tables.{Tables}
use Rattle.osgi_reply_life.proofs.Idle.{IsIdle, replied_idle}
use Rattle.osgi_reply_life.proofs.Conditions.{changed_by, not_at, not_so, says_nothing, SaysChange}
use Rattle.osgi_reply_life.proofs.Rows.{changing_at, down_at, resolved_rest, row_gone, row_there, state_is}

-- ---- a wish, at a moment

wish_missing : (now : Moment) (target : Target) (transient : Bool) → ((b : BundleId) → ¬ IsTarget now target b) → IsReply now (op.WishStart target transient) (answer.Refused no.NoSuchBundle)
wish_missing now target transient none =
    row-here now (op.WishStart target transient) (answer.Refused no.NoSuchBundle) refl (inl (no.NoSuchBundle, (refl, λ some. none some.0 some.1), refl))

-- the bundle is a fragment
abbrev of_fragment : Moment → BundleId → Refusal → Type 0
of_fragment now b = invalid_where (is_fragment_bundle now.world b ≡ true)

-- what refuses a wish for a bundle that is no fragment
abbrev wish_rest : Moment → Target → Bool → List (Refusal → Type 0)
wish_rest now target transient = at_target now target (state_change is_changing now) ∷ at_target now target (λ b. start_transient now b transient) ∷ []

module _ (now : Moment) (told : IsTold now) (target : Target) (transient : Bool) (b : BundleId) (at : IsTarget now target b) where
  wish_fragment : is_fragment_bundle now.world b ≡ true → IsReply now (op.WishStart target transient) (answer.Refused no.InvalidOperation)
  wish_fragment fragment =
      row-here now (op.WishStart target transient) (answer.Refused no.InvalidOperation) refl (inr (no-target now target b at, inl (no.InvalidOperation, (b, at, (refl, fragment)), refl)))

  -- past the first refusals
  wish_whole : (reply : Reply) → is_fragment_bundle now.world b ≡ false → Gives (wish_rest now target transient) (WishStartAnswers now target) (verdict reply) → IsReply now (op.WishStart target transient) reply
  wish_whole reply whole rest =
      row-here now (op.WishStart target transient) reply refl
      (inr (no-target now target b at, inr (not_at now target b (of_fragment now) at (λ f called. (let bad : true ≡ false = sym called.1 ∙ whole in cc bad)), rest)))

  wish_changing : (f : Refusal) → is_fragment_bundle now.world b ≡ false → state_change is_changing now b f → IsReply now (op.WishStart target transient) (answer.Refused f)
  wish_changing f whole changes = wish_whole (answer.Refused f) whole (inl (f, (b, at, changes), refl))

  -- past them all
  wish_resting : (reply : Reply) → is_fragment_bundle now.world b ≡ false → is_changing (state_of now b) ≡ false → Gives [] (WishStartAnswers now target) (verdict reply) → IsReply now (op.WishStart target transient) reply
  wish_resting reply whole rests says =
      wish_whole reply whole
      (inr (
        not_at now target b (state_change is_changing now) at (λ f called. (let bad : true ≡ false = sym called.0 ∙ rests in cc bad)),
        inr (not_at now target b (λ c. start_transient now c transient) at (λ f called. (let bad : true ≡ false = sym called.1.0 ∙ never-kept now told b in cc bad)), says),
      ))

  wish_active : is_fragment_bundle now.world b ≡ false → state_of now b ≡ Active → IsReply now (op.WishStart target transient) (answer.Active b)
  wish_active whole is =
      wish_resting (answer.Active b) whole (ap is_changing is) (b, at, sym (ap (λ s. cond (is_active s) (answer.Active b) (cond (is_level_too_high now b) (answer.Kept b) (answer.Go b))) is))

  wish_go : is_fragment_bundle now.world b ≡ false → is_changing (state_of now b) ≡ false → is_active (state_of now b) ≡ false → IsReply now (op.WishStart target transient) (answer.Go b)
  wish_go whole rests down =
      wish_resting (answer.Go b) whole rests (b, at, sym (λ i. cond (down i) (answer.Active b) (cond (never-above now told b i) (answer.Kept b) (answer.Go b))))

-- ---- a begin, at a moment

begin_missing : (now : Moment) (b : BundleId) (transient : Bool) → is_live b now.before ≡ false → IsReply now (op.BeginStart b transient) (answer.Refused no.NoSuchBundle)
begin_missing now b transient gone = row-here now (op.BeginStart b transient) (answer.Refused no.NoSuchBundle) refl (inl (no.NoSuchBundle, (refl, gone), refl))

-- what refuses the begin of a start of a bundle that is no fragment, and resolved
abbrev begin_rest : Moment → BundleId → Bool → List (Refusal → Type 0)
begin_rest now b transient =
    state_change is_changing now b ∷ start_transient now b transient ∷ Where no.TooDeep ((is_active (state_of now b) ≡ false) × (is_kept now b ≡ false) × IsDeep now) ∷ []

module _ (now : Moment) (told : IsTold now) (b : BundleId) (transient : Bool) (live : is_live b now.before ≡ true) where
  there : (f : Refusal) → ¬ no_such_bundle now b f
  there f called = let bad : true ≡ false = sym live ∙ called.1 in cc bad

  begin_invalid : (is_fragment_bundle now.world b ≡ true) ⊎ (state_of now b ≡ Unresolved) → IsReply now (op.BeginStart b transient) (answer.Refused no.InvalidOperation)
  begin_invalid invalid = row-here now (op.BeginStart b transient) (answer.Refused no.InvalidOperation) refl (inr (there, inl (no.InvalidOperation, (refl, invalid), refl)))

  -- past the first refusals
  begin_valid : (reply : Reply) → is_fragment_bundle now.world b ≡ false → state_of now b ≢ Unresolved → Gives (begin_rest now b transient) (BeginStartAnswers now b) (verdict reply) → IsReply now (op.BeginStart b transient) reply
  begin_valid reply whole resolved rest =
      row-here now (op.BeginStart b transient) reply refl
      (inr (there, inr (none, inr (λ f called. never-refreshing now told _ f called, rest))))
    where
      none : (f : Refusal) → ¬ invalid_where ((is_fragment_bundle now.world b ≡ true) ⊎ (state_of now b ≡ Unresolved)) f
      none f (is, inl fragment) = let bad : true ≡ false = sym fragment ∙ whole in cc bad
      none f (is, inr unresolved) = resolved unresolved

  begin_changing : (f : Refusal) → is_fragment_bundle now.world b ≡ false → state_of now b ≢ Unresolved → state_change is_changing now b f → IsReply now (op.BeginStart b transient) (answer.Refused f)
  begin_changing f whole resolved changes = begin_valid (answer.Refused f) whole resolved (inl (f, changes, refl))

  -- past all but that of the depth
  begin_resting : (reply : Reply) → is_fragment_bundle now.world b ≡ false → state_of now b ≢ Unresolved → is_changing (state_of now b) ≡ false →
      Gives (Where no.TooDeep ((is_active (state_of now b) ≡ false) × (is_kept now b ≡ false) × IsDeep now) ∷ []) (BeginStartAnswers now b) (verdict reply) → IsReply now (op.BeginStart b transient) reply
  begin_resting reply whole resolved rests rest =
      begin_valid reply whole resolved
      (inr (
        λ f called. (let bad : true ≡ false = sym called.0 ∙ rests in cc bad),
        inr (λ f called. (let bad : true ≡ false = sym called.1.0 ∙ never-kept now told b in cc bad), rest),
      ))

  begin_active : is_fragment_bundle now.world b ≡ false → state_of now b ≡ Active → IsReply now (op.BeginStart b transient) (answer.Active b)
  begin_active whole is =
      begin_resting (answer.Active b) whole (λ unresolved. (let bad : Active ≡ Unresolved = sym is ∙ unresolved in cc bad)) (ap is_changing is)
      (inr (
        λ f called. (let bad : true ≡ false = sym (ap is_active is) ∙ called.1.0 in cc bad),
        sym (ap (λ s. cond (is_active s) (answer.Active b) (cond (is_level_too_high now b) (answer.Kept b) (answer.Begun b (row_of now.setting.depot now.before b)))) is),
      ))

  begin_deep : is_fragment_bundle now.world b ≡ false → state_of now b ≡ Resolved → IsDeep now → IsReply now (op.BeginStart b transient) (answer.Refused no.TooDeep)
  begin_deep whole is deep =
      begin_resting (answer.Refused no.TooDeep) whole (λ unresolved. (let bad : Resolved ≡ Unresolved = sym is ∙ unresolved in cc bad)) (ap is_changing is)
      (inl (no.TooDeep, (refl, (ap is_active is, never-kept now told b, deep)), refl))

  begin_begun : (row : ℕ) → row ≡ row_of now.setting.depot now.before b → is_fragment_bundle now.world b ≡ false → state_of now b ≡ Resolved → ¬ IsDeep now → IsReply now (op.BeginStart b transient) (answer.Begun b row)
  begin_begun row same whole is shallow =
      begin_resting (answer.Begun b row) whole (λ unresolved. (let bad : Resolved ≡ Unresolved = sym is ∙ unresolved in cc bad)) (ap is_changing is)
      (inr (
        λ f called. shallow called.1.2,
        sym (λ i. cond (is_active (is i)) (answer.Active b) (cond (never-above now told b i) (answer.Kept b) (answer.Begun b (sym same i)))),
      ))

-- ---- a wish is replied to

abbrev wish : Tag → Target → Bool → Asked
wish tag target transient = record { tag = tag; op = op.WishStart target transient }

idle_wish : (target : Target) (transient : Bool) (reply : Reply) → IsIdle (op.WishStart target transient) reply
idle_wish target transient reply = record {
  others = of_services (op.WishStart target transient) reply (λ n since. refl) (λ b. refl) (λ b. refl) refl (λ b. refl) refl refl refl (λ l. refl) refl refl (λ now world same. same);
  services = record { registered = λ n since. refl; taken = λ s owner. refl; given = λ s. refl; got = λ u s. refl; let_go = λ u s. refl; cleaned = refl; made = λ tag opened. refl };
  none = λ now told after e. refl;
}

pub replied_wish_missing : (tables : Tables) (target : Target) (transient : Bool) → ((b : BundleId) → ¬ IsTargetRow target tables.bundles.rows b) → IsAnsweredToAll (op.WishStart target transient) tables (answer.Refused no.NoSuchBundle)
replied_wish_missing tables target transient none tag =
    replied_refused (wish tag target transient) tables no.NoSuchBundle refl
    (λ now at stood. wish_missing now target transient (λ b is. none b (rows_of_target now tables.bundles stood.bundles target b (row-at now at.told) is)))

module _ (tables : Tables) (target : Target) (transient : Bool) (b : BundleId) (row : BundleKept) (names : IsTargetRow target tables.bundles.rows b) (is : row_at b tables.bundles.rows ≡ Some row) where
  pub replied_wish_fragment : row.fragment ≡ true → IsAnsweredToAll (op.WishStart target transient) tables (answer.Refused no.InvalidOperation)
  replied_wish_fragment fragment tag =
      replied_refused (wish tag target transient) tables no.InvalidOperation refl
      (λ now at stood.
      let of = row_there now at.told tables.bundles b row stood.bundles is in
      wish_fragment now at.told target transient b (target_of_rows now tables.bundles stood.bundles target b (row-at now at.told) names) (sym of.fragment ∙ fragment))

  pub replied_wish_changing : (f : Refusal) → row.fragment ≡ false → is_changing_number row.state ≡ true → SaysChange row.by f → IsAnsweredToAll (op.WishStart target transient) tables (answer.Refused f)
  replied_wish_changing f whole changing says tag =
      replied_refused (wish tag target transient) tables f (says_nothing row.by f says)
      (λ now at stood.
      let of = row_there now at.told tables.bundles b row stood.bundles is in
      wish_changing now at.told target transient b (target_of_rows now tables.bundles stood.bundles target b (row-at now at.told) names) f (sym of.fragment ∙ whole)
      (changed_by now b row f of (changing_at of changing) says))

  pub replied_wish_active : row.fragment ≡ false → row.state ≡ ACTIVE → IsAnsweredToAll (op.WishStart target transient) tables (answer.Active b)
  replied_wish_active whole active tag =
      replied_idle (wish tag target transient) tables (answer.Active b) (idle_wish target transient (answer.Active b))
      (λ now at stood.
      let of = row_there now at.told tables.bundles b row stood.bundles is in
      wish_active now at.told target transient b (target_of_rows now tables.bundles stood.bundles target b (row-at now at.told) names) (sym of.fragment ∙ whole) (state_is Active of active))

  pub replied_wish_go : row.fragment ≡ false → is_changing_number row.state ≡ false → row.state ≢ ACTIVE → IsAnsweredToAll (op.WishStart target transient) tables (answer.Go b)
  replied_wish_go whole rests down tag =
      replied_idle (wish tag target transient) tables (answer.Go b) (idle_wish target transient (answer.Go b))
      (λ now at stood.
      let of = row_there now at.told tables.bundles b row stood.bundles is in
      wish_go now at.told target transient b (target_of_rows now tables.bundles stood.bundles target b (row-at now at.told) names) (sym of.fragment ∙ whole) (changing_at of rests) (down_at of down))

-- ---- a begin is replied to

abbrev begin : Tag → BundleId → Bool → Asked
begin tag b transient = record { tag = tag; op = op.BeginStart b transient }

-- a begin says nothing of services
begin_services : (b : BundleId) (transient : Bool) (reply : Reply) → QuietServices (op.BeginStart b transient) reply
begin_services b transient reply = record { registered = λ n since. refl; taken = λ s owner. refl; given = λ s. refl; got = λ u s. refl; let_go = λ u s. refl; cleaned = refl; made = λ tag opened. refl }

idle_begin : (b : BundleId) (transient : Bool) → IsIdle (op.BeginStart b transient) (answer.Active b)
idle_begin b transient = record {
  others = of_services (op.BeginStart b transient) (answer.Active b) (λ n since. refl) (λ c. refl) (λ c. refl) refl (λ c. refl) refl refl refl (λ l. refl) refl refl (λ now world same. same);
  services = begin_services b transient (answer.Active b);
  none = λ now told after e. refl;
}

begins_start : (b : BundleId) (transient : Bool) (row : ℕ) → IsBeginOf starting (start_of b) b (op.BeginStart b transient) (answer.Begun b row)
begins_start b transient row = record {
  puts = λ c. refl;
  bundles = record { installed = λ n since. refl; gone = λ c. refl; updated = λ c. refl; brings = refl };
  services = begin_services b transient (answer.Begun b row);
  keeps = record { heard = refl; hands = record { handed = λ l. refl; counted = refl } };
  jobs = refl;
  opened = refl;
  no_end = refl;
  leaves = λ now world same. same;
}

-- what the table answers, by the row that the bundle has
abbrev StartGives : Option BundleKept → Verdict Refusal Begun → Type 0
StartGives o v =
    Gives
    (Where no.NoSuchBundle (o ≡ None)
    ∷ Where no.InvalidOperation (IsSomeAnd o (λ (r : BundleKept). (r.fragment ≡ true) ⊎ (r.state ≡ INSTALLED)))
    ∷ (λ f. IsSomeAnd o (λ (r : BundleKept). (is_changing_number r.state ≡ true) × SaysChange r.by f))
    ∷ [])
    (λ begun. IsSomeAnd o (λ (r : BundleKept). begun ≡ cond (r.state == ACTIVE) Already (Run r.row))) v

module _ (tables : Tables) (tag : Tag) (b : BundleId) (transient : Bool) where
  refused_begin : (f : Refusal) → took_effect (answer.Refused f) ≡ false → EachTime (begin tag b transient) tables (λ now. IsReply now (op.BeginStart b transient) (answer.Refused f)) →
      IsReplyAndChange (begin tag b transient) tables (answer.Refused f) change.Nothing
  refused_begin f none due = decided_refused (begin tag b transient) tables f none due

  decided_begin_missing : row_at b tables.bundles.rows ≡ None → IsReplyAndChange (begin tag b transient) tables (answer.Refused no.NoSuchBundle) change.Nothing
  decided_begin_missing none = refused_begin no.NoSuchBundle refl (λ now at stood. begin_missing now b transient (row_gone now at.told tables.bundles b stood.bundles none))

  module _ (row : BundleKept) (is : row_at b tables.bundles.rows ≡ Some row) where
    decided_begin_fragment : row.fragment ≡ true → IsReplyAndChange (begin tag b transient) tables (answer.Refused no.InvalidOperation) change.Nothing
    decided_begin_fragment fragment =
        refused_begin no.InvalidOperation refl
        (λ now at stood.
        let of = row_there now at.told tables.bundles b row stood.bundles is in
        begin_invalid now at.told b transient of.live (inl (sym of.fragment ∙ fragment)))

    decided_begin_unresolved : row.state ≡ INSTALLED → IsReplyAndChange (begin tag b transient) tables (answer.Refused no.InvalidOperation) change.Nothing
    decided_begin_unresolved installed =
        refused_begin no.InvalidOperation refl
        (λ now at stood.
        let of = row_there now at.told tables.bundles b row stood.bundles is in
        begin_invalid now at.told b transient of.live (inr (state_is Unresolved of installed)))

    decided_begin_changing : (f : Refusal) → row.fragment ≡ false → is_changing_number row.state ≡ true → SaysChange row.by f → IsReplyAndChange (begin tag b transient) tables (answer.Refused f) change.Nothing
    decided_begin_changing f whole changing says =
        refused_begin f (says_nothing row.by f says)
        (λ now at stood.
        let of = row_there now at.told tables.bundles b row stood.bundles is in
        let changes = changing_at of changing in
        begin_changing now at.told b transient of.live f (sym of.fragment ∙ whole) (λ unresolved. (let bad : true ≡ false = sym changes ∙ ap is_changing unresolved in cc bad))
        (changed_by now b row f of changes says))

    decided_row_active : row.fragment ≡ false → row.state ≡ ACTIVE → IsReplyAndChange (begin tag b transient) tables (answer.Active b) change.Nothing
    decided_row_active whole active =
        decided_same (begin tag b transient) tables (answer.Active b) refl
        (replied_idle (begin tag b transient) tables (answer.Active b) (idle_begin b transient)
        (λ now at stood.
        let of = row_there now at.told tables.bundles b row stood.bundles is in
        begin_active now at.told b transient of.live (sym of.fragment ∙ whole) (state_is Active of active)))

    decided_row_deep : MayStart row → HoldsMost tag.caller tables.brackets → IsReplyAndChange (begin tag b transient) tables (answer.Refused no.TooDeep) change.Nothing
    decided_row_deep may most =
        refused_begin no.TooDeep refl
        (λ now at stood.
        let of = row_there now at.told tables.bundles b row stood.bundles is in
        begin_deep now at.told b transient of.live (sym of.fragment ∙ may.0) (resolved_rest of may) (deep_at (begin tag b transient) tables now at stood most))

    decided_row_begun : MayStart row → ¬ HoldsMost tag.caller tables.brackets → IsReplyAndChange (begin tag b transient) tables (answer.Begun b row.row) (change.BeginStart tag b)
    decided_row_begun may fewer = record {
      possible = subst (λ o. IsSomeAnd o MayStart) (sym is) may;
      cleans = refl;
      answered = λ new changed.
          replied_begun (begin tag b transient) tables new (answer.Begun b row.row) starting (start_of b) b (happened (change.BeginStart tag b) tables.registry tables.bundles) (begins_start b transient row.row)
          (λ now at stood.
          let of = row_there now at.told tables.bundles b row stood.bundles is in
          begin_begun now at.told b transient of.live row.row of.depot_row (sym of.fragment ∙ may.0) (resolved_rest of may) (shallow_at (begin tag b transient) tables now at stood fewer))
          (λ now at stood. let of = row_there now at.told tables.bundles b row stood.bundles is in (when-resolved now b (resolved_rest of may)).is_so)
          (λ now at stood. one_shown 128 now tables at.told stood b row is) changed;
    }

  -- ---- as the table of bundles decides

  refused_by_row : (o : Option BundleKept) → row_at b tables.bundles.rows ≡ o → (f : Refusal) → StartGives o (refuses f) → IsReplyAndChange (begin tag b transient) tables (answer.Refused f) change.Nothing
  refused_by_row o is f (inl (g, called, same)) =
      let f_is : f ≡ g = cc same in
      subst (λ h. IsReplyAndChange (begin tag b transient) tables (answer.Refused h) change.Nothing) (sym (f_is ∙ called.0)) (decided_begin_missing (is ∙ called.1))
  refused_by_row None is f (inr (there, inl (g, called, same))) = absurd called.1
  refused_by_row None is f (inr (there, inr (valid, inl (g, called, same)))) = absurd called
  refused_by_row (Some row) is f (inr (there, inl (g, called, same))) =
      let f_is : f ≡ g = cc same in
      subst (λ h. IsReplyAndChange (begin tag b transient) tables (answer.Refused h) change.Nothing) (sym (f_is ∙ called.0)) (by called.1)
    where
      by : (row.fragment ≡ true) ⊎ (row.state ≡ INSTALLED) → IsReplyAndChange (begin tag b transient) tables (answer.Refused no.InvalidOperation) change.Nothing
      by (inl fragment) = decided_begin_fragment row is fragment
      by (inr installed) = decided_begin_unresolved row is installed
  refused_by_row (Some row) is f (inr (there, inr (valid, inl (g, called, same)))) =
      let f_is : f ≡ g = cc same in
      subst (λ h. IsReplyAndChange (begin tag b transient) tables (answer.Refused h) change.Nothing) (sym f_is)
      (decided_begin_changing row is g (not_so row.fragment (λ fragment. valid no.InvalidOperation (refl, inl fragment))) called.0 called.1)
  refused_by_row o is f (inr (there, inr (valid, inr (still, none)))) = absurd none

  active_by_row : (o : Option BundleKept) → row_at b tables.bundles.rows ≡ o → StartGives o (answers Already) → IsReplyAndChange (begin tag b transient) tables (answer.Active b) change.Nothing
  active_by_row o is (inl (g, called, same)) = absurd (cc same)
  active_by_row o is (inr (there, inl (g, called, same))) = absurd (cc same)
  active_by_row o is (inr (there, inr (valid, inl (g, called, same)))) = absurd (cc same)
  active_by_row None is (inr (there, inr (valid, inr (still, due)))) = absurd due
  active_by_row (Some row) is (inr (there, inr (valid, inr (still, due)))) =
      decided_row_active row is (not_so row.fragment (λ fragment. valid no.InvalidOperation (refl, inl fragment))) (eqb-true row.state ACTIVE (already (row.state == ACTIVE) row.row due))
    where
      already : (k : Bool) (n : ℕ) → Already ≡ cond k Already (Run n) → k ≡ true
      already true n e = refl
      already false n e = absurd (cc e)

  deep_by_row : (o : Option BundleKept) → row_at b tables.bundles.rows ≡ o → IsSomeAnd o MayStart → HoldsMost tag.caller tables.brackets → IsReplyAndChange (begin tag b transient) tables (answer.Refused no.TooDeep) change.Nothing
  deep_by_row None is may most = absurd may
  deep_by_row (Some row) is may most = decided_row_deep row is may most

  begun_by_row : (o : Option BundleKept) → row_at b tables.bundles.rows ≡ o → (number : ℕ) → StartGives o (answers (Run number)) → IsSomeAnd o MayStart → ¬ HoldsMost tag.caller tables.brackets →
      IsReplyAndChange (begin tag b transient) tables (answer.Begun b number) (change.BeginStart tag b)
  begun_by_row o is number (inl (g, called, same)) may fewer = absurd (cc same)
  begun_by_row o is number (inr (there, inl (g, called, same))) may fewer = absurd (cc same)
  begun_by_row o is number (inr (there, inr (valid, inl (g, called, same)))) may fewer = absurd (cc same)
  begun_by_row None is number (inr (there, inr (valid, inr (still, due)))) may fewer = absurd may
  begun_by_row (Some row) is number (inr (there, inr (valid, inr (still, due)))) may fewer =
      let run : Run number ≡ Run row.row = due ∙ ap (λ k. cond k Already (Run row.row)) (ne_eqb row.state ACTIVE may.3) in
      let same : number ≡ row.row = cc run in
      subst (λ n. IsReplyAndChange (begin tag b transient) tables (answer.Begun b n) (change.BeginStart tag b)) (sym same) (decided_row_begun row is may fewer)

  pub decided_begin_refused : (f : Refusal) → Gives (start_refusals b tables.bundles.rows) (StartBegins b tables.bundles.rows) (refuses f) → IsReplyAndChange (begin tag b transient) tables (answer.Refused f) change.Nothing
  decided_begin_refused f given = refused_by_row (row_at b tables.bundles.rows) refl f given

  pub decided_begin_active : Gives (start_refusals b tables.bundles.rows) (StartBegins b tables.bundles.rows) (answers Already) → IsReplyAndChange (begin tag b transient) tables (answer.Active b) change.Nothing
  decided_begin_active given = active_by_row (row_at b tables.bundles.rows) refl given

  pub decided_begin_deep : IsStartable b tables.bundles.rows → HoldsMost tag.caller tables.brackets → IsReplyAndChange (begin tag b transient) tables (answer.Refused no.TooDeep) change.Nothing
  decided_begin_deep may most = deep_by_row (row_at b tables.bundles.rows) refl may most

  pub decided_begun : (number : ℕ) → Gives (start_refusals b tables.bundles.rows) (StartBegins b tables.bundles.rows) (answers (Run number)) → IsStartable b tables.bundles.rows → ¬ HoldsMost tag.caller tables.brackets →
      IsReplyAndChange (begin tag b transient) tables (answer.Begun b number) (change.BeginStart tag b)
  decided_begun number given may fewer = begun_by_row (row_at b tables.bundles.rows) refl number given may fewer
