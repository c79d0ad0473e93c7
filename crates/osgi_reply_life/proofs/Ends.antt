-- What the end of a start and the end of a stop are answered.
use Rattle.std.proofs.Common.{◌≡◌, inl, inr, ap, sym, subst, ◌∙◌, refl}
use Rattle.std.specs.Prelude.{Bool, true, false, cond, None, Some, IsSomeAnd, Option}
use Rattle.std.proofs.lemmas.Bool.{false_from_ne_true}
use Rattle.osgi_base.specs.declared.ids.BundleId.{BundleId}
use Rattle.osgi_base.specs.declared.ids.Tag.{Tag}
use Rattle.osgi_brackets.specs.Open.{open_of}
use Rattle.osgi_bundle.specs.Rows.{IsInChange, row_at}
use Rattle.osgi_bundle.specs.declared.kept.BundleKept.{BundleKept}
use Rattle.osgi_legal.specs.Quiet.{QuietBundles}
use Rattle.osgi_stage.proofs.Current.{up-resolved}
use Rattle.osgi_stage.proofs.Ends.{own-start, own-start-live, own-stop, own-stop-live}
use Rattle.osgi_stage.proofs.StateReadings.{state-in}
use Rattle.osgi_ops.specs.Brackets.{is_own_end}
use Rattle.osgi_ops.specs.OwnBrackets.{own_closes}
use Rattle.osgi_ops.specs.Bundles as phases
use Rattle.osgi_ops.specs.Bundles.{is_up, last_begin, number_of, Starting, State, Stopping}
use Rattle.osgi_ops.specs.Cleaning.{cleaned_by}
use Rattle.osgi_ops.specs.Conditions.{state_of}
use Rattle.osgi_legal.specs.Legal.{entry_of, IsAskedAt, IsTold}
use Rattle.osgi_ops.specs.Listening.{happenings}
use Rattle.osgi_ops.specs.Moments.{Moment}
use Rattle.osgi_legal.specs.Operations.{IsReply}
use Rattle.osgi_ops.specs.declared.asked.Asked.{Asked}
use Rattle.osgi_ops.specs.declared.op.Op.TheVariants as op
use Rattle.osgi_ops.specs.declared.refusal.Refusal.TheVariants as no
use Rattle.osgi_ops.specs.declared.reply.Reply.{Reply}
use Rattle.osgi_ops.specs.declared.reply.Reply.TheVariants as answer
use Rattle.osgi_ops.specs.declared.state.TheConstants.{STARTING, STOPPING}
use Rattle.osgi_legal.specs.laws.Stages.{row-here}
use Rattle.osgi_sights.specs.Shown.{AreShown}
use Rattle.osgi_tables.proofs.Living.{IsEndOf, own_end_at, replied_ended}
use Rattle.osgi_tables.proofs.Replying.{decided_refused}
use Rattle.osgi_tables.proofs.Shown.{cleaned_shown, one_shown, stopped_shown}
use Rattle.osgi_tables.specs.Changes.{happened, IsReplyAndChange}
use Rattle.osgi_bundle.specs.Stands.{started_phase}
use Rattle.osgi_tables.specs.Replied.{StandsFor}
use Rattle.osgi_tables.specs.declared.change.Change.TheVariants as change
use Rattle.osgi_tables.specs.declared.tables.Tables.{Tables}
use Rattle.osgi_reply_life.proofs.Rows.{row_gone, row_there, state_is}

-- the operation is the end of the innermost bracket of its caller, which its own line opened
abbrev pub IsOwnEnd : Asked → Tables → Type 0
IsOwnEnd asked tables = own_closes asked.tag asked.op (open_of tables.brackets asked.tag.caller) ≡ true

-- the reply to an end, by whether a section failed
abbrev pub reply_of : Bool → Reply
reply_of true = answer.Refused no.ActivatorError
reply_of false = answer.Done

abbrev end_start : Tag → BundleId → Bool → Asked
end_start tag b failed = record { tag = tag; op = op.EndStart b failed }

abbrev end_stop : Tag → BundleId → Bool → Asked
end_stop tag b failed = record { tag = tag; op = op.EndStop b failed }

-- ---- at a moment

start_refused : (now : Moment) (b : BundleId) (failed : Bool) → is_own_end now.tag (op.EndStart b failed) now.before ≡ false → IsReply now (op.EndStart b failed) (answer.Refused no.InvalidOperation)
start_refused now b failed other = row-here now (op.EndStart b failed) (answer.Refused no.InvalidOperation) refl (inl (no.InvalidOperation, (refl, other), refl))

start_ended : (now : Moment) (b : BundleId) (failed : Bool) → is_own_end now.tag (op.EndStart b failed) now.before ≡ true → IsReply now (op.EndStart b failed) (reply_of failed)
start_ended now b true own =
    row-here now (op.EndStart b true) (answer.Refused no.ActivatorError) refl (inr (λ f called. (let bad : true ≡ false = sym own ∙ called.1 in cc bad), inl (no.ActivatorError, (refl, refl), refl)))
start_ended now b false own =
    row-here now (op.EndStart b false) answer.Done refl
    (inr (λ f called. (let bad : true ≡ false = sym own ∙ called.1 in cc bad), inr (λ f called. (let bad : false ≡ true = called.1 in cc bad), refl)))

stop_refused : (now : Moment) (b : BundleId) (failed : Bool) → is_own_end now.tag (op.EndStop b failed) now.before ≡ false → IsReply now (op.EndStop b failed) (answer.Refused no.InvalidOperation)
stop_refused now b failed other = row-here now (op.EndStop b failed) (answer.Refused no.InvalidOperation) refl (inl (no.InvalidOperation, (refl, other), refl))

stop_ended : (now : Moment) (b : BundleId) (failed : Bool) → is_own_end now.tag (op.EndStop b failed) now.before ≡ true → IsReply now (op.EndStop b failed) (reply_of failed)
stop_ended now b true own =
    row-here now (op.EndStop b true) (answer.Refused no.ActivatorError) refl (inr (λ f called. (let bad : true ≡ false = sym own ∙ called.1 in cc bad), inl (no.ActivatorError, (refl, refl), refl)))
stop_ended now b false own =
    row-here now (op.EndStop b false) answer.Done refl
    (inr (λ f called. (let bad : true ≡ false = sym own ∙ called.1 in cc bad), inr (λ f called. (let bad : false ≡ true = called.1 in cc bad), refl)))

-- ---- what the table says of a bundle that is starting or stopping

-- where the bundle is so in the history, it is so in the table
in_change_at : (now : Moment) (tables : Tables) (b : BundleId) (s : State) (tag : Tag) → IsTold now → StandsFor now tables → phases.is_live b now.before ≡ true → state_of now b ≡ s → last_begin b now.before ≡ Some tag →
    IsInChange (number_of s) tag b tables.bundles.rows
in_change_at now tables b s tag told stood live state begun = by (row_at b tables.bundles.rows) refl
  where
    by : (o : Option BundleKept) → row_at b tables.bundles.rows ≡ o → IsInChange (number_of s) tag b tables.bundles.rows
    by None e = absurd (let bad : true ≡ false = sym live ∙ row_gone now told tables.bundles b stood.bundles e in cc bad)
    by (Some row) e =
        let of = row_there now told tables.bundles b row stood.bundles e in
        subst (λ o. IsSomeAnd o (λ (r : BundleKept). (r.state ≡ number_of s) × (r.by ≡ Some tag))) (sym e) (of.state ∙ ap number_of state, of.by ∙ begun)

-- and the other way round
state_at : (now : Moment) (tables : Tables) (b : BundleId) (s : State) (tag : Tag) → IsTold now → StandsFor now tables → IsInChange (number_of s) tag b tables.bundles.rows → state_of now b ≡ s
state_at now tables b s tag told stood is = by (row_at b tables.bundles.rows) refl is
  where
    by : (o : Option BundleKept) → row_at b tables.bundles.rows ≡ o → IsSomeAnd o (λ (r : BundleKept). (r.state ≡ number_of s) × (r.by ≡ Some tag)) → state_of now b ≡ s
    by None e is = absurd is
    by (Some row) e is = state_is s (row_there now told tables.bundles b row stood.bundles e) is.0

-- ---- what is decided

module _ (tables : Tables) (tag : Tag) (b : BundleId) (failed : Bool) where
  starting_here : (now : Moment) → IsAskedAt (end_start tag b failed) now → StandsFor now tables → is_own_end now.tag (op.EndStart b failed) now.before ≡ true → IsInChange STARTING tag b tables.bundles.rows
  starting_here now at stood own =
      let live = own-start-live now at.told b failed own in
      in_change_at now tables b Starting tag at.told stood live.live (state-in now b phases.starting true live) ((own-start now at.told b failed own).1 ∙ ap Some at.tag)

  stopping_here : (now : Moment) → IsAskedAt (end_stop tag b failed) now → StandsFor now tables → is_own_end now.tag (op.EndStop b failed) now.before ≡ true → IsInChange STOPPING tag b tables.bundles.rows
  stopping_here now at stood own =
      let live = own-stop-live now at.told b failed own in
      in_change_at now tables b Stopping tag at.told stood live.live (state-in now b phases.stopping true live) ((own-stop now at.told b failed own).1 ∙ ap Some at.tag)

  pub decided_start_refused : ¬ (IsOwnEnd (end_start tag b failed) tables × IsInChange STARTING tag b tables.bundles.rows) → IsReplyAndChange (end_start tag b failed) tables (answer.Refused no.InvalidOperation) change.Nothing
  decided_start_refused none =
      decided_refused (end_start tag b failed) tables no.InvalidOperation refl
      (λ now at stood.
      start_refused now b failed
      (false_from_ne_true _ (λ own. none (sym (own_end_at (end_start tag b failed) tables now at stood) ∙ own, starting_here now at stood own))))

  pub decided_stop_refused : ¬ (IsOwnEnd (end_stop tag b failed) tables × IsInChange STOPPING tag b tables.bundles.rows) → IsReplyAndChange (end_stop tag b failed) tables (answer.Refused no.InvalidOperation) change.Nothing
  decided_stop_refused none =
      decided_refused (end_stop tag b failed) tables no.InvalidOperation refl
      (λ now at stood.
      stop_refused now b failed
      (false_from_ne_true _ (λ own. none (sym (own_end_at (end_stop tag b failed) tables now at stood) ∙ own, stopping_here now at stood own))))

-- an end says nothing of which bundles there are
start_bundles : (b : BundleId) (failed : Bool) (reply : Reply) → QuietBundles (op.EndStart b failed) reply
start_bundles b failed reply = record { installed = λ n since. refl; gone = λ c. refl; updated = λ c. refl; brings = refl }

stop_bundles : (b : BundleId) (failed : Bool) (reply : Reply) → QuietBundles (op.EndStop b failed) reply
stop_bundles b failed reply = record { installed = λ n since. refl; gone = λ c. refl; updated = λ c. refl; brings = refl }

is_end_start : (b : BundleId) (failed : Bool) → IsEndOf (started_phase failed) failed b (op.EndStart b failed) (reply_of failed)
is_end_start b true = record {
  puts = λ c. refl;
  bundles = start_bundles b true (reply_of true);
  cleans = refl;
  hears = refl;
  jobs = refl;
  hands = record { handed = λ l. refl; counted = refl };
  no_turn = λ l. refl;
  opened = refl;
  leaves = λ now world same. same;
}
is_end_start b false = record {
  puts = λ c. refl;
  bundles = start_bundles b false (reply_of false);
  cleans = record { registered = λ n since. refl; taken = λ s owner. refl; given = λ s. refl; got = λ u s. refl; let_go = λ u s. refl; cleaned = refl; made = λ tag opened. refl };
  hears = refl;
  jobs = refl;
  hands = record { handed = λ l. refl; counted = refl };
  no_turn = λ l. refl;
  opened = refl;
  leaves = λ now world same. same;
}

is_end_stop : (b : BundleId) (failed : Bool) → IsEndOf phases.idle true b (op.EndStop b failed) (reply_of failed)
is_end_stop b true = record {
  puts = λ c. refl;
  bundles = stop_bundles b true (reply_of true);
  cleans = refl;
  hears = refl;
  jobs = refl;
  hands = record { handed = λ l. refl; counted = refl };
  no_turn = λ l. refl;
  opened = refl;
  leaves = λ now world same. same;
}
is_end_stop b false = record {
  puts = λ c. refl;
  bundles = stop_bundles b false (reply_of false);
  cleans = refl;
  hears = refl;
  jobs = refl;
  hands = record { handed = λ l. refl; counted = refl };
  no_turn = λ l. refl;
  opened = refl;
  leaves = λ now world same. same;
}

-- the row that is there
row_in : (P : BundleKept → Type 0) (o p : Option BundleKept) → p ≡ o → IsSomeAnd p P → (row : BundleKept) × (p ≡ Some row)
row_in P None p same is = absurd (subst (λ q. IsSomeAnd q P) same is)
row_in P (Some row) p same is = (row, same)

-- one that failed cleans the bundle, and so does each end of a stop
cleans_start : (b : BundleId) (failed : Bool) → cleaned_by (op.EndStart b failed) (reply_of failed) ≡ cond failed (Some b) None
cleans_start b true = refl
cleans_start b false = refl

cleans_stop : (b : BundleId) (failed : Bool) → cleaned_by (op.EndStop b failed) (reply_of failed) ≡ Some b
cleans_stop b true = refl
cleans_stop b false = refl

-- what happens is shown by the tables
start_shown : (now : Moment) (tables : Tables) → IsTold now → StandsFor now tables → (tag : Tag) (b : BundleId) (failed : Bool) → IsInChange STARTING tag b tables.bundles.rows →
    AreShown (happened (change.EndStart tag b failed) tables.registry tables.bundles) (happenings now.before now.world tables.wirings.world (entry_of now (op.EndStart b failed) (reply_of failed)) (op.EndStart b failed) (reply_of failed))
start_shown now tables told stood tag b true is = let there = row_in _ (row_at b tables.bundles.rows) (row_at b tables.bundles.rows) refl is in cleaned_shown now tables told stood b there.0 there.1
start_shown now tables told stood tag b false is = let there = row_in _ (row_at b tables.bundles.rows) (row_at b tables.bundles.rows) refl is in one_shown 2 now tables told stood b there.0 there.1

stop_shown : (now : Moment) (tables : Tables) → IsTold now → StandsFor now tables → (tag : Tag) (b : BundleId) (failed : Bool) → IsInChange STOPPING tag b tables.bundles.rows →
    AreShown (happened (change.EndStop tag b) tables.registry tables.bundles) (happenings now.before now.world tables.wirings.world (entry_of now (op.EndStop b failed) (reply_of failed)) (op.EndStop b failed) (reply_of failed))
stop_shown now tables told stood tag b true is = let there = row_in _ (row_at b tables.bundles.rows) (row_at b tables.bundles.rows) refl is in stopped_shown now tables told stood b there.0 there.1
stop_shown now tables told stood tag b false is = let there = row_in _ (row_at b tables.bundles.rows) (row_at b tables.bundles.rows) refl is in stopped_shown now tables told stood b there.0 there.1

start_ended_so : (tables : Tables) (tag : Tag) (b : BundleId) (failed : Bool) → IsOwnEnd (end_start tag b failed) tables → IsInChange STARTING tag b tables.bundles.rows →
    IsReplyAndChange (end_start tag b failed) tables (reply_of failed) (change.EndStart tag b failed)
start_ended_so tables tag b failed own is = record {
  possible = is;
  cleans = cleans_start b failed;
  answered = λ new changed.
      replied_ended (end_start tag b failed) tables new (reply_of failed) (started_phase failed) failed b (happened (change.EndStart tag b failed) tables.registry tables.bundles) (is_end_start b failed) own
      (λ now at stood. start_ended now b failed (own_end_at (end_start tag b failed) tables now at stood ∙ own))
      (λ now at stood. up-resolved now at.told b (ap is_up (state_at now tables b Starting tag at.told stood is)))
      (λ now at stood. start_shown now tables at.told stood tag b failed is) changed;
}

stop_ended_so : (tables : Tables) (tag : Tag) (b : BundleId) (failed : Bool) → IsOwnEnd (end_stop tag b failed) tables → IsInChange STOPPING tag b tables.bundles.rows →
    IsReplyAndChange (end_stop tag b failed) tables (reply_of failed) (change.EndStop tag b)
stop_ended_so tables tag b failed own is = record {
  possible = is;
  cleans = cleans_stop b failed;
  answered = λ new changed.
      replied_ended (end_stop tag b failed) tables new (reply_of failed) phases.idle true b (happened (change.EndStop tag b) tables.registry tables.bundles) (is_end_stop b failed) own
      (λ now at stood. stop_ended now b failed (own_end_at (end_stop tag b failed) tables now at stood ∙ own))
      (λ now at stood. up-resolved now at.told b (ap is_up (state_at now tables b Stopping tag at.told stood is)))
      (λ now at stood. stop_shown now tables at.told stood tag b failed is) changed;
}

pub decided_start_ended : (tables : Tables) (tag : Tag) (b : BundleId) (failed so : Bool) → failed ≡ so → IsOwnEnd (end_start tag b failed) tables → IsInChange STARTING tag b tables.bundles.rows →
    IsReplyAndChange (end_start tag b failed) tables (reply_of so) (change.EndStart tag b failed)
decided_start_ended tables tag b failed so same own is = subst (λ k. IsReplyAndChange (end_start tag b failed) tables (reply_of k) (change.EndStart tag b failed)) same (start_ended_so tables tag b failed own is)

pub decided_stop_ended : (tables : Tables) (tag : Tag) (b : BundleId) (failed so : Bool) → failed ≡ so → IsOwnEnd (end_stop tag b failed) tables → IsInChange STOPPING tag b tables.bundles.rows →
    IsReplyAndChange (end_stop tag b failed) tables (reply_of so) (change.EndStop tag b)
decided_stop_ended tables tag b failed so same own is = subst (λ k. IsReplyAndChange (end_stop tag b failed) tables (reply_of k) (change.EndStop tag b)) same (stop_ended_so tables tag b failed own is)
