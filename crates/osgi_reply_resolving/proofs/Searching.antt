-- A resolve answers, and changes the tables, as the history says.
use Rattle.std.proofs.Common.{◌≡◌, ◌+◌, ℕ, inl, inr, List, [], ◌∷◌, ◌++◌, map, ap, sym, subst, ◌∙◌, refl}
use Rattle.std.specs.Prelude.{true, false, All, Err, IfOk, is_some, Ok, OnOk, Option, None, Result, Some}
use Rattle.std.specs.Option.{option_map_or}
use Rattle.std.specs.List.Sorted.{IsNonDecreasing}
use Rattle.osgi_base.specs.Verdict.{answers, Gives, refuses, Verdict}
use Rattle.osgi_base.specs.declared.ids.BundleId.{BundleId}
use Rattle.osgi_base.specs.declared.ids.RevisionId.{RevisionId}
use Rattle.osgi_bundle.specs.Rows.{AreInOrder, IsSettable, TableRows}
use Rattle.osgi_bundle.specs.Stands as bundle
use Rattle.osgi_bundle.specs.Stands.{kept_of}
use Rattle.osgi_bundle.specs.laws.Standing as table
use Rattle.osgi_jobs.specs.laws.Standing.{stands-quiet}
use Rattle.osgi_legal.specs.Quiet.{QuietBundles, QuietServices}
use Rattle.osgi_stage.proofs.Current.{dead-at, live-at, up-resolved}
use Rattle.osgi_legal.proofs.Quiet.{bundles-quiet}
use Rattle.osgi_stage.proofs.Stage.{never-refreshing}
use Rattle.osgi_resolver_theory.proofs.Once.{effort_within-once, first-extends_world, none-extends_world}
use Rattle.osgi_resolver_theory.proofs.Ordered.{partial-ordered}
use Rattle.osgi_resolver_theory.proofs.Search.{within-not_above}
use Rattle.osgi_ops.specs.Bundles.{Bundle, bundles, is_live}
use Rattle.osgi_legal.specs.Legal.{entry_of, IsTold}
use Rattle.osgi_ops.specs.Moments.{later, Moment}
use Rattle.osgi_legal.specs.Operations.{Answers, conditions, IsReply}
use Rattle.osgi_ops.specs.Replies.{verdict}
use Rattle.osgi_ops.specs.Resolved.{current_revision, is_fragment_bundle, is_in_use, is_resolved}
use Rattle.osgi_ops.specs.Resolving.{AnswersResolve, IsResolvedTo, IsUnmet, newly_resolved, Resolves, search_conditions}
use Rattle.osgi_ops.specs.Soundness.{IsSound}
use Rattle.osgi_ops.specs.Worlds.{Leaves}
use Rattle.osgi_ops.specs.declared.entry.Entry.{Entry}
use Rattle.osgi_ops.specs.declared.op.Op.TheVariants as op
use Rattle.osgi_ops.specs.declared.refusal.Refusal.{Refusal}
use Rattle.osgi_ops.specs.declared.refusal.Refusal.TheVariants.{BudgetSpent, InvalidOperation, NoSuchBundle, Unresolvable}
use Rattle.osgi_ops.specs.declared.refusal.Unmet.{Unmet}
use Rattle.osgi_ops.specs.declared.reply.Reply.{Reply}
use Rattle.osgi_ops.specs.declared.reply.Reply.TheVariants as answer
use Rattle.osgi_ops.specs.laws.Bundles.{row-live}
use Rattle.osgi_ops.specs.laws.Items.{In-contains}
use Rattle.osgi_ops.specs.rows.Bundles.{unresolved_refusals}
use Rattle.osgi_ops.specs.laws.Resolved.{current-is, unresolved-is}
use Rattle.osgi_registry.specs.laws.Standing as registry
use Rattle.osgi_resolver.specs.Answers.{IsAnswerTo, IsCause}
use Rattle.osgi_resolver.specs.declared.answer.Answer.{Answer}
use Rattle.osgi_resolver.specs.declared.answer.Answer.TheVariants.{Found, NoWord, Spent}
use Rattle.osgi_resolver.specs.declared.answer.Cause.{Cause}
use Rattle.osgi_resolver.specs.declared.answer.Cause.TheVariants as cause
use Rattle.osgi_wiring.specs.States.{IsKeptWorld, MayExtend, wiring_at, WiringState, with_wirings}
use Rattle.osgi_world.specs.Candidates.{IsUnresolved}
use Rattle.osgi_world.specs.ChoiceWords.{made_by}
use Rattle.osgi_world.specs.Consistency.{Extends, ExtendsWorld}
use Rattle.osgi_world.specs.Effort.{IsEffortAbove, IsEffortWithin, IsResolveOf}
use Rattle.osgi_world.specs.Lists.{In}
use Rattle.osgi_world.specs.Lookups.{bundle_of, IsCurrentOf, requirement_at}
use Rattle.osgi_world.specs.Partial.{added}
use Rattle.osgi_world.specs.declared.problem.Problem.{Problem}
use Rattle.osgi_world.specs.declared.wiring.Wiring.{Wiring}
use Rattle.osgi_world.specs.declared.world.Known.{Known}
use Rattle.osgi_world.specs.declared.world.World.{World}
use Rattle.osgi_reply_resolving.proofs.Brought.{sound_of}
use Rattle.osgi_base.specs.declared.ids.Tag.{Tag}
use Rattle.osgi_ops.specs.Listening.{of_bundle}
use Rattle.osgi_sights.specs.Shown.{AreShown}
use Rattle.osgi_tables.proofs.Hearing.{heard_still}
use Rattle.osgi_tables.proofs.Shown.{all_shown}
use Rattle.osgi_tables.proofs.Replying.{at, brackets_left, bundles_unsaid, from_own, replied_refused, unsaid, unseen}
use Rattle.osgi_reply_resolving.proofs.Rows.{distinct, IsSteady, listed_same, rows_after}
use Rattle.osgi_tables.proofs.Wired.{target_open, whole_bundle}
use Rattle.osgi_tables.specs.Replied.{IsAnswered, IsAnsweredToAll, StandsFor}
use Rattle.osgi_tables.specs.Changes.{bundles_shown, IsReplyAndChangeToAll, with_resolved}
use Rattle.osgi_reply_resolving.specs.computed.Searched.{IsAsked, IsSaid, listed}
use Rattle.osgi_tables.specs.declared.change.Change.{Change}
use Rattle.osgi_tables.specs.declared.change.Change.TheVariants as change
use Rattle.osgi_tables.specs.declared.tables.Tables.{Tables}

-- ---- the bundle

-- one with a current revision is live
live : (now : Moment) → IsTold now → (b : BundleId) (k : Known) → current_revision now.world b ≡ Some k → ¬ (is_live b now.before ≡ false)
live now told b k is gone = let bad : true ≡ false = sym (live-at now told b k is) ∙ gone in cc bad

-- what is a fragment or resolved has one
some_fragment : (W : World) (b : BundleId) → is_fragment_bundle W b ≡ true → (k : Known) × (current_revision W b ≡ Some k)
some_fragment W b is = by (current_revision W b) refl is
  where
    by : (o : Option Known) → current_revision W b ≡ o → option_map_or (λ (k : Known). is_some k.revision.host) o false ≡ true → (k : Known) × (current_revision W b ≡ Some k)
    by None e is = absurd (cc is)
    by (Some k) e is = (k, e)

some_resolved : (W : World) (b : BundleId) → is_resolved W b ≡ true → (k : Known) × (current_revision W b ≡ Some k)
some_resolved W b is = by (current_revision W b) refl is
  where
    by : (o : Option Known) → current_revision W b ≡ o → option_map_or (λ (k : Known). is_in_use W.wirings k.id) o false ≡ true → (k : Known) × (current_revision W b ≡ Some k)
    by None e is = absurd (cc is)
    by (Some k) e is = (k, e)

-- ---- what a resolve is about

module _ (W : World) (b : BundleId) (root : RevisionId) (sound : IsSound W) (asked : IsAsked W b root) where
  pub asked_whole : is_fragment_bundle W b ≡ false
  asked_whole = whole_bundle W b asked.known asked.is asked.whole

  pub asked_current : IsCurrentOf W.known b root
  asked_current = subst (IsCurrentOf W.known b) asked.id (current-is W sound.is_world.known_once b asked.known asked.is)

  pub asked_open : is_resolved W b ≡ false
  asked_open = target_open W b asked.known sound asked.is asked.whole (ap (wiring_at W.wirings) asked.id ∙ asked.unwired)

  pub asked_unresolved : IsUnresolved W.known W.wirings root
  asked_unresolved = subst (IsUnresolved W.known W.wirings) asked.id (unresolved-is W sound b asked.known asked.is asked_whole asked_open)

  -- an answer is one to the problem of resolving the bundle
  problem_of : (n : ℕ) (found : Answer) (a : IsAnswerTo W root n found) → IsResolveOf W b a.problem
  problem_of n found a = record { world = a.world; root = subst (λ r. IsCurrentOf W.known b r) (sym a.root_is) asked_current; problem = a.is_problem }

in_right : {X : Type 0} (xs ys : List X) (x : X) → In x ys → In x (xs ++ ys)
in_right [] ys x i = i
in_right (y ∷ xs) ys x i = inr (in_right xs ys x i)

-- the wirings that are found may be added
pub found_extends : (W : World) (root : RevisionId) (n : ℕ) (word : List ℕ) (wirings : List Wiring) → IsAnswerTo W root n (Found word wirings) → MayExtend W wirings
found_extends W root n word wirings a =
    let P = a.problem in
    let D = made_by P word in
    let here : Extends W.known W.wirings (W.wirings ++ added P D) P.root = subst (λ (w : World). Extends w.known w.wirings (w.wirings ++ added P D) P.root) a.world a.is.0.good.2 in
    record {
      root = P.root;
      extends = subst (λ l. Extends W.known W.wirings (W.wirings ++ l) P.root) (sym a.is.2) here;
      fragments_ordered = λ g there.
          subst (λ (w : World). IsNonDecreasing (map (bundle_of w.known) g.fragments)) a.world ((partial-ordered P a.is_problem D).fragments_ordered g (in_right P.world.wirings (added P D) g (subst (In g) a.is.2 there)));
    }

-- ---- conditions

-- what the search gives, where there is one
searched : (now : Moment) → IsTold now → (b : BundleId) (k : Known) (v : Verdict Refusal Reply) → current_revision now.world b ≡ Some k → is_fragment_bundle now.world b ≡ false → is_resolved now.world b ≡ false →
    Gives (search_conditions now b) (AnswersResolve false now b) v → Gives (conditions now (op.Resolve b)) (Answers now (op.Resolve b)) v
searched now told b k v is whole unresolved given =
    inr (
      (λ other called. live now told b k is called.1),
      inr (
        (λ other called. cc (called.1, whole)),
        subst (λ t. Gives (unresolved_refusals t now b) (AnswersResolve t now b) v) (sym unresolved) (inr ((λ other called. never-refreshing now told _ other called), given)),
      ),
    )

pub replied_missing : (tables : Tables) (b : BundleId) → current_revision tables.wirings.world b ≡ None → IsAnsweredToAll (op.Resolve b) tables (answer.Refused NoSuchBundle)
replied_missing tables b none who =
    replied_refused (record { tag = who; op = op.Resolve b }) tables NoSuchBundle refl
    (from_own tables (λ now. IsReply now (op.Resolve b) (answer.Refused NoSuchBundle)) (λ now told stood. inl (NoSuchBundle, (refl, dead-at (at now tables) told b none), refl)))

pub replied_fragment : (tables : Tables) (b : BundleId) → is_fragment_bundle tables.wirings.world b ≡ true → IsAnsweredToAll (op.Resolve b) tables (answer.Refused InvalidOperation)
replied_fragment tables b is who =
    let k = some_fragment tables.wirings.world b is in
    replied_refused (record { tag = who; op = op.Resolve b }) tables InvalidOperation refl
    (from_own tables (λ now. IsReply now (op.Resolve b) (answer.Refused InvalidOperation)) (λ now told stood.
    inr ((λ other called. live (at now tables) told b k.0 k.1 called.1), inl (InvalidOperation, (refl, is), refl))))

quiet_resolve : (b : BundleId) (ids : List BundleId) → QuietServices (op.Resolve b) (answer.Resolved ids)
quiet_resolve b ids = record { registered = λ n since. refl; taken = λ s owner. refl; given = λ s. refl; got = λ u s. refl; let_go = λ u s. refl; cleaned = refl; made = λ tag opened. refl }

pub replied_resolved : (tables : Tables) (b : BundleId) → is_fragment_bundle tables.wirings.world b ≡ false → is_resolved tables.wirings.world b ≡ true → IsAnsweredToAll (op.Resolve b) tables (answer.Resolved [])
replied_resolved tables b whole resolved who =
    let W = tables.wirings.world in
    let k = some_resolved W b resolved in
    let reply = answer.Resolved [] in
    unseen (record { tag = who; op = op.Resolve b }) tables tables reply
    (from_own tables (λ now. IsReply now (op.Resolve b) reply) (λ now told stood.
    inr (
      (λ other called. live (at now tables) told b k.0 k.1 called.1),
      inr ((λ other called. cc (called.1, whole)), subst (λ t. Gives (unresolved_refusals t (at now tables) b) (AnswersResolve t (at now tables) b) (verdict reply)) (sym resolved) refl),
    )))
    (from_own tables (λ now. Leaves now (op.Resolve b) reply W) (λ now told stood. subst (λ t. Resolves t (at now tables) b [] W) (sym resolved) refl)) (λ past before after e. refl)
    (from_own tables (λ now. StandsFor (later now (op.Resolve b) reply W []) tables) (λ now told stood.
    still_resolve (at now tables) tables b resolved stood))
  where
    -- nothing changes, so it is left as it was
    still_resolve : (now : Moment) (tables : Tables) (b : BundleId) → is_resolved now.world b ≡ true → StandsFor now tables → StandsFor (later now (op.Resolve b) (answer.Resolved []) tables.wirings.world []) tables
    still_resolve now tables b resolved stood =
        let e : Entry = entry_of now (op.Resolve b) (answer.Resolved []) in
        let quiet : QuietBundles (op.Resolve b) (answer.Resolved []) = record { installed = λ n since. refl; gone = λ c. refl; updated = λ c. refl; brings = refl } in
        let heard = heard_still now tables (op.Resolve b) (answer.Resolved []) stood refl refl (λ l. refl) refl in
        record {
          depot = stood.depot;
          budget = stood.budget;
          services = registry.stands_quiet now.before tables.registry e stood.services (unsaid e (quiet_resolve b []));
          bundles =
              subst (λ (w : World). bundle.StandsFor now.setting.depot (now.before ++ e ∷ []) w tables.bundles) (sym stood.world)
              (table.stands_quiet now.setting.depot now.before now.world tables.bundles e stood.bundles (bundles_unsaid e quiet (λ c. refl)));
          brackets = brackets_left now (op.Resolve b) (answer.Resolved []) tables.brackets stood.brackets refl refl;
          world = refl;
          issued = stood.issued ∙ sym (bundles-quiet now.setting.depot now.before e quiet).revisions;
          sound = subst IsSound (sym stood.world) stood.sound;
          listeners = heard.listeners;
          small = heard.small;
          handings = heard.handings;
          jobs = stands-quiet now.before e tables.jobs refl stood.jobs;
        }

-- ---- refusals of the search

module _ (tables : Tables) (b : BundleId) (root : RevisionId) (kept : IsKeptWorld tables.wirings.world tables.wirings.issued) (asked : IsAsked tables.wirings.world b root) where
  W : World
  W = tables.wirings.world

  sound : IsSound tables.wirings.world
  sound = sound_of tables.wirings.world tables.wirings.issued kept

  open_there : is_resolved tables.wirings.world b ≡ false
  open_there = asked_open tables.wirings.world b root sound asked

  whole_there : is_fragment_bundle tables.wirings.world b ≡ false
  whole_there = asked_whole tables.wirings.world b root sound asked

  said_unmet : (P : Problem) (c : Cause) (said : Unmet) → P.world ≡ tables.wirings.world → IsCause P c → IsSaid tables.wirings.world.known c said → IsUnmet P said
  said_unmet P (cause.NoCandidate q) said world first is =
      subst (IsUnmet P) (sym is.2)
      (record { place = q; first = first; requirement = is.0; is = subst (λ (w : World). requirement_at w.known q ≡ Some is.0) (sym world) is.1; namespace_is = refl; name_is = refl })
  said_unmet P cause.Clash said world none is = subst (IsUnmet P) (sym is) none

  pub replied_unresolvable : (c : Cause) (said : Unmet) → IsAnswerTo tables.wirings.world root tables.budget (NoWord c) → IsSaid tables.wirings.world.known c said → IsAnsweredToAll (op.Resolve b) tables (answer.Refused (Unresolvable said))
  replied_unresolvable c said a is who =
      let p = problem_of tables.wirings.world b root sound asked tables.budget (NoWord c) a in
      replied_refused (record { tag = who; op = op.Resolve b }) tables (Unresolvable said) refl
      (from_own tables (λ now. IsReply now (op.Resolve b) (answer.Refused (Unresolvable said))) (λ now told stood.
      searched (at now tables) told b asked.known (refuses (Unresolvable said)) asked.is whole_there open_there
      (inl (
        Unresolvable said,
        record {
          none = none-extends_world tables.wirings.world b a.problem p a.is.0;
          problem = a.problem;
          is_problem = p;
          effort = subst (IsEffortWithin a.problem) stood.budget a.is.1;
          cause = said;
          unmet = said_unmet a.problem c said a.world a.is.2 is;
          says = refl;
        },
        refl,
      ))))

  pub replied_spent : (visited : ℕ) → IsAnswerTo tables.wirings.world root tables.budget (Spent visited) → IsAnsweredToAll (op.Resolve b) tables (answer.Refused (BudgetSpent visited))
  replied_spent visited a who =
      let p = problem_of tables.wirings.world b root sound asked tables.budget (Spent visited) a in
      replied_refused (record { tag = who; op = op.Resolve b }) tables (BudgetSpent visited) refl
      (from_own tables (λ now. IsReply now (op.Resolve b) (answer.Refused (BudgetSpent visited))) (λ now told stood.
      let above : IsEffortAbove a.problem now.setting.bounds.budget = subst (IsEffortAbove a.problem) stood.budget a.is.1 in
      searched (at now tables) told b asked.known (refuses (BudgetSpent visited)) asked.is whole_there open_there
      (inr (
        (λ refusal u. within-not_above a.problem now.setting.bounds.budget (effort_within-once tables.wirings.world b u.problem a.problem u.is_problem p now.setting.bounds.budget u.effort) above),
        inl (
          BudgetSpent visited,
          record {
            problem = a.problem;
            is_problem = p;
            effort = above;
            says = ap BudgetSpent (a.is.0 ∙ ap (λ n. n + 1) stood.budget);
          },
          refl,
        ),
      ))))

  -- ---- the bundle is resolved

  module _ (word : List ℕ) (wirings : List Wiring) (a : IsAnswerTo tables.wirings.world root tables.budget (Found word wirings)) (order : AreInOrder tables.bundles) where
    p : IsResolveOf tables.wirings.world b a.problem
    p = problem_of tables.wirings.world b root sound asked tables.budget (Found word wirings) a

    resolved_to : IsResolvedTo tables.wirings.world b (with_wirings tables.wirings.world wirings)
    resolved_to = record {
      problem = a.problem;
      is_problem = p;
      word = word;
      first = a.is.0;
      is = λ i. record tables.wirings.world { wirings = (sym a.world i).wirings ++ a.is.2 i };
    }

    extended : ExtendsWorld tables.wirings.world (with_wirings tables.wirings.world wirings) b
    unfolding resolved_to
    extended = subst (λ (w : World). ExtendsWorld tables.wirings.world w b) (sym resolved_to.is) (first-extends_world tables.wirings.world b a.problem word p a.is.0)

    ids : List BundleId
    ids = listed tables.wirings.world wirings tables.bundles.rows

    -- each bundle of the history is live, and resolved where it is up
    steady : (now : Moment) → IsTold (at now tables) → (c : Bundle) → In c (bundles now.setting.depot now.before) → IsSteady tables.wirings.world now.before c
    steady now told c there = record {
      live = row-live now.setting.depot now.before c (In-contains (bundles now.setting.depot now.before) c there);
      up = up-resolved (at now tables) told c.bundle;
    }

    ids_are : (now : Moment) → IsTold (at now tables) → StandsFor (at now tables) tables → listed tables.wirings.world wirings tables.bundles.rows ≡ newly_resolved (at now tables) (with_wirings tables.wirings.world wirings)
    ids_are now told stood = ap (listed tables.wirings.world wirings) stood.bundles.rows ∙ listed_same tables.wirings.world now.before wirings (bundles now.setting.depot now.before) (steady now told)

    found_due : (now : Moment) → IsTold (at now tables) → StandsFor (at now tables) tables → IsReply (at now tables) (op.Resolve b) (answer.Resolved (listed tables.wirings.world wirings tables.bundles.rows))
    found_due now told stood =
        searched (at now tables) told b asked.known (answers (answer.Resolved (listed tables.wirings.world wirings tables.bundles.rows))) asked.is whole_there open_there
        (inr (
          (λ refusal u. u.none (with_wirings tables.wirings.world wirings) extended),
          inr (
            (λ refusal o. within-not_above o.problem now.setting.bounds.budget (effort_within-once tables.wirings.world b a.problem o.problem p o.is_problem now.setting.bounds.budget (subst (IsEffortWithin a.problem) stood.budget a.is.1)) o.effort),
            (with_wirings tables.wirings.world wirings, resolved_to, ap answer.Resolved (ids_are now told stood)),
          ),
        ))

    module _ (new : TableRows) (after : WiringState) (world : after.world ≡ with_wirings tables.wirings.world wirings) (kept_then : IsKeptWorld after.world after.issued) (issued : after.issued ≡ tables.wirings.issued)
        (rows : new.rows ≡ with_resolved (listed tables.wirings.world wirings tables.bundles.rows) tables.bundles.rows) (given : new.issued ≡ tables.bundles.issued) where
      -- the rows in the world with the wirings
      rows_then : (now : Moment) → IsTold (at now tables) → StandsFor (at now tables) tables → bundle.StandsFor now.setting.depot now.before (with_wirings tables.wirings.world wirings) new
      rows_then now told stood =
          let bs = bundles now.setting.depot now.before in
          let apart = distinct tables.wirings.world now.before bs tables.bundles order stood.bundles.rows in
          let list_is = listed_same tables.wirings.world now.before wirings bs (steady now told) in
          record {
            rows =
                rows
                ∙ (λ i. with_resolved (listed tables.wirings.world wirings (stood.bundles.rows i)) (stood.bundles.rows i))
                ∙ (λ i. with_resolved (list_is i) (map (kept_of tables.wirings.world now.before) bs))
                ∙ rows_after tables.wirings.world now.before wirings bs (steady now told) apart;
            issued = given ∙ stood.bundles.issued;
          }

      found_stands : (now : Moment) → IsTold (at now tables) → StandsFor (at now tables) tables → StandsFor (later (at now tables) (op.Resolve b) (answer.Resolved (listed tables.wirings.world wirings tables.bundles.rows)) after.world []) (record tables { bundles = new; wirings = after })
      found_stands now told stood =
          let depot = now.setting.depot in
          let then = with_wirings tables.wirings.world wirings in
          let ids : List BundleId = listed tables.wirings.world wirings tables.bundles.rows in
          let e : Entry = record { tag = now.tag; op = op.Resolve b; reply = answer.Resolved ids } in
          let quiet : QuietBundles (op.Resolve b) (answer.Resolved ids) = record { installed = λ n since. refl; gone = λ c. refl; updated = λ c. refl; brings = refl } in
          let heard = heard_still (at now tables) tables (op.Resolve b) (answer.Resolved ids) stood refl refl (λ l. refl) refl in
          record {
            depot = stood.depot;
            budget = stood.budget;
            services = registry.stands_quiet now.before tables.registry e stood.services (unsaid e (quiet_resolve b ids));
            bundles =
                subst (λ (w : World). bundle.StandsFor depot (now.before ++ e ∷ []) w new) (sym world)
                (table.stands_quiet depot now.before then new e (rows_then now told stood) (bundles_unsaid e quiet (λ c. refl)));
            brackets = brackets_left now (op.Resolve b) (answer.Resolved ids) tables.brackets stood.brackets refl refl;
            world = refl;
            issued = issued ∙ stood.issued ∙ sym (bundles-quiet depot now.before e quiet).revisions;
            sound = sound_of after.world after.issued kept_then;
            listeners = heard.listeners;
            small = heard.small;
            handings = heard.handings;
            jobs = stands-quiet now.before e tables.jobs refl stood.jobs;
          }

      pub replied_found : All (λ c. IsSettable c tables.bundles.rows) (listed tables.wirings.world wirings tables.bundles.rows) → (who : Tag) →
          IsAnswered (record { tag = who; op = op.Resolve b }) tables (record tables { bundles = new; wirings = after }) (answer.Resolved (listed tables.wirings.world wirings tables.bundles.rows))
          (bundles_shown 32 (listed tables.wirings.world wirings tables.bundles.rows) tables.bundles.rows)
      replied_found settable who = record {
        due = from_own tables (λ now. IsReply now (op.Resolve b) (answer.Resolved (listed tables.wirings.world wirings tables.bundles.rows))) found_due;
        left = from_own tables (λ now. Leaves now (op.Resolve b) (answer.Resolved (listed tables.wirings.world wirings tables.bundles.rows)) after.world) (λ now told stood.
            subst (λ t. Resolves t (at now tables) b (listed tables.wirings.world wirings tables.bundles.rows) after.world) (sym open_there)
            (subst (IsResolvedTo tables.wirings.world b) (sym world) resolved_to, ids_are now told stood ∙ ap (newly_resolved (at now tables)) (sym world)));
        happens = from_own tables
            (λ now. AreShown (bundles_shown 32 (listed tables.wirings.world wirings tables.bundles.rows) tables.bundles.rows) (map (of_bundle 32 now.world after.world) (listed tables.wirings.world wirings tables.bundles.rows)))
            (λ now told stood. all_shown 32 (at now tables) tables told stood after.world (ap (λ (w : World). w.known) world) (listed tables.wirings.world wirings tables.bundles.rows) settable);
        stands = from_own tables (λ now. StandsFor (later now (op.Resolve b) (answer.Resolved (listed tables.wirings.world wirings tables.bundles.rows)) after.world []) (record tables { bundles = new; wirings = after })) found_stands;
      }

-- ---- what is decided

-- the wirings that are found are put in force
pub decided_found : (tables : Tables) (b : BundleId) (root : RevisionId) → IsKeptWorld tables.wirings.world tables.wirings.issued → IsAsked tables.wirings.world b root → (word : List ℕ) (wirings : List Wiring) →
    IsAnswerTo tables.wirings.world root tables.budget (Found word wirings) → All (λ b. IsSettable b tables.bundles.rows) (listed tables.wirings.world wirings tables.bundles.rows) → AreInOrder tables.bundles →
    IsReplyAndChangeToAll (op.Resolve b) tables (answer.Resolved (listed tables.wirings.world wirings tables.bundles.rows)) (change.Resolve wirings (listed tables.wirings.world wirings tables.bundles.rows))
decided_found tables b root kept asked word wirings a settable order who = record {
  possible = record { extends = found_extends tables.wirings.world root tables.budget word wirings a; settable = settable };
  cleans = refl;
  answered = λ new put.
      subst
      (λ t. IsAnswered (record { tag = who; op = op.Resolve b }) tables t (answer.Resolved (listed tables.wirings.world wirings tables.bundles.rows))
      (bundles_shown 32 (listed tables.wirings.world wirings tables.bundles.rows) tables.bundles.rows)) (sym put.is)
      (replied_found tables b root kept asked word wirings a order put.bundles put.wirings put.world put.holds put.issued put.rows put.given settable who);
}

pub found_ok : {E : Type 0} (r : Result (Reply × Change) E) (tables : Tables) (b : BundleId) (root : RevisionId) → IsKeptWorld tables.wirings.world tables.wirings.issued → IsAsked tables.wirings.world b root → (word : List ℕ) (wirings : List Wiring) →
    IsAnswerTo tables.wirings.world root tables.budget (Found word wirings) → IfOk r (λ x. x.0 ≡ answer.Resolved (listed tables.wirings.world wirings tables.bundles.rows)) →
    IfOk r (λ x. x.1 ≡ change.Resolve wirings (listed tables.wirings.world wirings tables.bundles.rows)) →
    OnOk r (All (λ b. IsSettable b tables.bundles.rows) (listed tables.wirings.world wirings tables.bundles.rows)) → OnOk r (AreInOrder tables.bundles) → IfOk r (λ x. IsReplyAndChangeToAll (op.Resolve b) tables x.0 x.1)
found_ok (Ok x) tables b root kept asked word wirings a is_reply is_change settable order =
    subst (λ y. IsReplyAndChangeToAll (op.Resolve b) tables y x.1) (sym is_reply)
    (subst (IsReplyAndChangeToAll (op.Resolve b) tables (answer.Resolved (listed tables.wirings.world wirings tables.bundles.rows))) (sym is_change) (decided_found tables b root kept asked word wirings a settable order))
found_ok (Err e) tables b root kept asked word wirings a is_reply is_change settable order = tt
