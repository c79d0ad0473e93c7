-- An install answers, and changes the tables, as the history says.
use Rattle.std.proofs.Common.{◌≡◌, ◌+◌, ◌<◌, ℕ, inl, inr, List, [], ◌∷◌, ◌++◌, length, ap, sym, subst, ◌∙◌, refl, arith}
use Rattle.std.specs.Prelude.{Bool, true, false, is_some, Option, None, Some}
use Rattle.std.specs.Option.{option_map}
use Rattle.std.proofs.lemmas.List.{length-map}
use Rattle.osgi_base.specs.Verdict.{answers, Gives, refuses, Verdict, Where}
use Rattle.osgi_base.specs.declared.ids.BundleId.{BundleId}
use Rattle.osgi_base.specs.declared.ids.RevisionId.{RevisionId}
use Rattle.osgi_bundle.proofs.Made.{gives_answer, gives_due, gives_refusal, made_apart, made_new}
use Rattle.osgi_bundle.specs.Rows.{bundle_from as row_from, row_refusals, IsTwin, new_row, TableRows}
use Rattle.osgi_bundle.specs.Stands as bundle
use Rattle.osgi_bundle.specs.Stands.{IsNewBundle, kept_of, StandsAfter}
use Rattle.osgi_bundle.specs.declared.kept.BundleKept.{BundleKept}
use Rattle.osgi_bundle.specs.laws.Standing as table
use Rattle.osgi_jobs.specs.laws.Standing.{stands-quiet}
use Rattle.osgi_legal.specs.Quiet.{QuietServices}
use Rattle.osgi_stage.proofs.Current.{fresh-at}
use Rattle.osgi_stage.proofs.Fresh.{never-given}
use Rattle.osgi_stage.proofs.Windows.{revisions-more}
use Rattle.osgi_ops.specs.Bundles.{Bundle, bundle_from, bundles, installed, revisions}
use Rattle.osgi_ops.specs.Conditions.{depot_refusal, IsDuplicate}
use Rattle.osgi_ops.specs.Depots.{stored_revision, revision_in, row_number, stored_at}
use Rattle.osgi_legal.specs.Legal.{IsTold}
use Rattle.osgi_ops.specs.Moments.{later, Moment}
use Rattle.osgi_legal.specs.Operations.{IsReply}
use Rattle.osgi_ops.specs.Replies.{took_effect}
use Rattle.osgi_ops.specs.Resolved.{is_in_use}
use Rattle.osgi_ops.specs.Soundness.{IsSound}
use Rattle.osgi_ops.specs.Worlds.{Leaves, with_revision}
use Rattle.osgi_ops.specs.rows.Bundles.{install_refusals, installs}
use Rattle.osgi_ops.specs.laws.Resolved.{in_use-true}
use Rattle.osgi_ops.specs.declared.depot.DepotRow.{DepotRow}
use Rattle.osgi_ops.specs.declared.depot.Stored.{Stored}
use Rattle.osgi_ops.specs.declared.depot.Stored.TheVariants as stored
use Rattle.osgi_ops.specs.declared.entry.Entry.{Entry}
use Rattle.osgi_ops.specs.declared.op.Op.TheVariants as op
use Rattle.osgi_ops.specs.declared.limits.TheConstants.{MAX_BUNDLES}
use Rattle.osgi_ops.specs.declared.refusal.Many.TheVariants.{Bundles, Locations}
use Rattle.osgi_ops.specs.declared.refusal.Refusal.{Refusal}
use Rattle.osgi_ops.specs.declared.refusal.Refusal.TheVariants as no
use Rattle.osgi_ops.specs.declared.refusal.Refusal.TheVariants.{DuplicateBundle, TooMany}
use Rattle.osgi_ops.specs.declared.reply.Reply.{Reply}
use Rattle.osgi_ops.specs.declared.reply.Reply.TheVariants as answer
use Rattle.osgi_registry.specs.laws.Standing as registry
use Rattle.osgi_wiring.proofs.Grown.{Grown, use-known}
use Rattle.osgi_wiring.specs.States.{IsKeptWorld, WiringState}
use Rattle.osgi_version.specs.declared.version.Version.{Version}
use Rattle.osgi_world.specs.Lookups.{IsKnown}
use Rattle.osgi_world.specs.declared.revision.Revision.{Revision}
use Rattle.osgi_world.specs.declared.world.World.{World}
use Rattle.osgi_base.specs.declared.ids.Tag.{Tag}
use Rattle.osgi_ops.specs.Listening.{of_bundle}
use Rattle.osgi_sights.specs.Shown.{AreShown}
use Rattle.osgi_sights.specs.Shown as shown
use Rattle.osgi_tables.proofs.Happening.{brought_named, shown_after}
use Rattle.osgi_tables.proofs.Hearing.{heard_still}
use Rattle.osgi_tables.proofs.Shown.{to_shown}
use Rattle.osgi_tables.proofs.Replying.{at, brackets_left, from_own, of_services, replied_refused, still_tables, unsaid, unseen}
use Rattle.osgi_tables.specs.Replied.{HasRoom, IsAnswered, IsAnsweredToAll, IsBrought, StandsFor}
use Rattle.osgi_tables.specs.Changes.{IsReplyAndChangeToAll}
use Rattle.osgi_tables.specs.declared.change.Change.TheVariants as change
use Rattle.osgi_tables.specs.declared.tables.Tables.{Tables}

-- ---- the location of a live bundle

known_reply : (at : Option Bundle) (id : BundleId) (now : Moment) (location : List ℕ) (count : ℕ) → option_map (λ (b : Bundle). b.bundle) at ≡ Some id →
    Gives (install_refusals at now location) (λ reply. reply ≡ installs at count) (answers (answer.Bundle id true))
known_reply None id now location count is = absurd (cc is)
known_reply (Some b) id now location count is = let same : b.bundle ≡ id = cc is in ap (λ i. answer.Bundle i true) (sym same)

quiet_known : (location : List ℕ) (id : BundleId) (known : Bool) → QuietServices (op.Install location) (answer.Bundle id known)
quiet_known location id known = record { registered = λ n since. refl; taken = λ s owner. refl; given = λ s. refl; got = λ u s. refl; let_go = λ u s. refl; cleaned = refl; made = λ tag opened. refl }

pub replied_known : (tables : Tables) (location : List ℕ) (id : BundleId) → row_from location tables.bundles.rows ≡ Some id → IsAnsweredToAll (op.Install location) tables (answer.Bundle id true)
replied_known tables location id is who =
    let reply = answer.Bundle id true in
    unseen (record { tag = who; op = op.Install location }) tables tables reply
    (λ now told stood.
    known_reply (bundle_from now.setting.depot now.before location) id now location (length (installed now.before))
    (sym (table.from_location now.setting.depot now.before now.world tables.bundles location stood.bundles) ∙ is))
    (λ now told stood. stood.world) (λ past before after e. refl)
    (λ now told stood.
    still_tables now tables (op.Install location) reply stood (of_services (op.Install location) reply (λ n since. refl) (λ b. refl) (λ b. refl) refl (λ b. refl) refl refl refl (λ l. refl) refl refl (λ now world same. same)) (quiet_known location id true))

-- ---- a location that no live bundle has

new_location : (now : Moment) (tables : Tables) (location : List ℕ) → StandsFor now tables → row_from location tables.bundles.rows ≡ None → bundle_from now.setting.depot now.before location ≡ None
new_location now tables location stood none = unknown (bundle_from now.setting.depot now.before location) (sym (table.from_location now.setting.depot now.before now.world tables.bundles location stood.bundles) ∙ none)
  where
    unknown : (at : Option Bundle) → option_map (λ (b : Bundle). b.bundle) at ≡ None → at ≡ None
    unknown None is = refl
    unknown (Some b) is = absurd (cc is)

given_new : (at : Option Bundle) (now : Moment) (location : List ℕ) (count : ℕ) (v : Verdict Refusal Reply) → at ≡ None → Gives (install_refusals None now location) (λ reply. reply ≡ installs None count) v →
    Gives (install_refusals at now location) (λ reply. reply ≡ installs at count) v
given_new at now location count v none given = subst (λ a. Gives (install_refusals a now location) (λ reply. reply ≡ installs a count) v) (sym none) given

-- none of the refusals of an Install cleans up
plain_depot : (stored : Option Stored) (refusal : Refusal) → depot_refusal stored ≡ Some refusal → took_effect (answer.Refused refusal) ≡ false
plain_depot None refusal is = let named : refusal ≡ no.NoFolder = cc (sym is) in ap (λ f. took_effect (answer.Refused f)) named
plain_depot (Some stored.Skipped) refusal is = let named : refusal ≡ TooMany Locations = cc (sym is) in ap (λ f. took_effect (answer.Refused f)) named
plain_depot (Some (stored.Failed before after)) refusal is = let named : refusal ≡ no.ReadError = cc (sym is) in ap (λ f. took_effect (answer.Refused f)) named
plain_depot (Some (stored.TooLarge bytes files)) refusal is = let named : refusal ≡ no.ReadError = cc (sym is) in ap (λ f. took_effect (answer.Refused f)) named
plain_depot (Some stored.NoFolder) refusal is = let named : refusal ≡ no.NoFolder = cc (sym is) in ap (λ f. took_effect (answer.Refused f)) named
plain_depot (Some (stored.Bad fault)) refusal is = let named : refusal ≡ no.ManifestError fault = cc (sym is) in ap (λ f. took_effect (answer.Refused f)) named
plain_depot (Some (stored.Read revision manifest)) refusal is = absurd (cc is)

plain_rows : (name : List ℕ) (version : Version) (rows : List BundleKept) (due : BundleKept → Type 0) (refusal : Refusal) → Gives (row_refusals name version rows) due (refuses refusal) → took_effect (answer.Refused refusal) ≡ false
plain_rows name version rows due refusal (inl (other, twin, same)) = let named : refusal ≡ DuplicateBundle twin.other.bundle = cc same ∙ twin.says in ap (λ f. took_effect (answer.Refused f)) named
plain_rows name version rows due refusal (inr (none, inl (other, full, same))) = let named : refusal ≡ TooMany Bundles = cc same ∙ full.0 in ap (λ f. took_effect (answer.Refused f)) named
plain_rows name version rows due refusal (inr (none, inr (room, given))) = absurd given

-- the depot has no revision there
pub replied_unread : (tables : Tables) (location : List ℕ) (refusal : Refusal) → row_from location tables.bundles.rows ≡ None → depot_refusal (stored_at tables.depot.rows location) ≡ Some refusal →
    IsAnsweredToAll (op.Install location) tables (answer.Refused refusal)
replied_unread tables location refusal none is who =
    replied_refused (record { tag = who; op = op.Install location }) tables refusal (plain_depot (stored_at tables.depot.rows location) refusal is) (λ now told stood.
    given_new (bundle_from now.setting.depot now.before location) now location (length (installed now.before)) (refuses refusal) (new_location now tables location stood none)
    (inl (refusal, subst (λ (rows : List DepotRow). depot_refusal (stored_at rows location) ≡ Some refusal) stood.depot is, refl)))

-- ---- a revision of the depot

count_rows : (now : Moment) (old : TableRows) → bundle.StandsFor now.setting.depot now.before now.world old → length old.rows ≡ length (bundles now.setting.depot now.before)
count_rows now old stood = ap length stood.rows ∙ length-map (bundles now.setting.depot now.before) (kept_of now.world now.before)

-- what the table gives by its rows is given by the history
by_rows : (now : Moment) (old : TableRows) (location : List ℕ) (revision : Revision) (manifest : List ℕ) (due : Reply → Type 0) (v : Verdict Refusal Reply) → bundle.StandsFor now.setting.depot now.before now.world old →
    stored_at now.setting.depot location ≡ Some (stored.Read revision manifest) → Gives (row_refusals revision.name revision.version old.rows) due v →
    Gives (install_refusals None now location) due v
by_rows now old location revision manifest due v stood is given = inr ((λ other called. absurd (cc (called, ap depot_refusal is))), own given)
  where
    there : stored_revision now.setting.depot location ≡ Some revision
    there = ap revision_in is

    count : length old.rows ≡ length (bundles now.setting.depot now.before)
    count = count_rows now old stood

    own : Gives (row_refusals revision.name revision.version old.rows) due v →
        Gives (IsDuplicate now None location ∷ Where (TooMany Bundles) (MAX_BUNDLES < length (bundles now.setting.depot now.before)) ∷ []) due v
    own (inl (refusal, twin, same)) = inl (refusal, table.twin_is_duplicate now old location revision refusal stood there twin, same)
    own (inr (none, inl (refusal, (named, full), same))) =
        inr ((λ other duplicate. none other (table.duplicate_is_twin now old location revision other stood there duplicate)), inl (refusal, (named, subst (λ n. MAX_BUNDLES < n) count full), same))
    own (inr (none, inr (room, given))) =
        inr ((λ other duplicate. none other (table.duplicate_is_twin now old location revision other stood there duplicate)), inr ((λ other called. room other (called.0, subst (λ n. MAX_BUNDLES < n) (sym count) called.1)), given))

-- the table refuses
pub replied_uninstalled : (tables : Tables) (location : List ℕ) (revision : Revision) (manifest : List ℕ) (due : BundleKept → Type 0) (refusal : Refusal) → row_from location tables.bundles.rows ≡ None →
    stored_at tables.depot.rows location ≡ Some (stored.Read revision manifest) → Gives (row_refusals revision.name revision.version tables.bundles.rows) due (refuses refusal) →
    IsAnsweredToAll (op.Install location) tables (answer.Refused refusal)
replied_uninstalled tables location revision manifest due refusal none is given who =
    replied_refused (record { tag = who; op = op.Install location }) tables refusal (plain_rows revision.name revision.version tables.bundles.rows due refusal given) (λ now told stood.
    let count = length (installed now.before) in
    given_new (bundle_from now.setting.depot now.before location) now location count (refuses refusal) (new_location now tables location stood none)
    (by_rows now tables.bundles location revision manifest (λ reply. reply ≡ installs None count) (refuses refusal) stood.bundles
    (subst (λ (rows : List DepotRow). stored_at rows location ≡ Some (stored.Read revision manifest)) stood.depot is)
    (gives_refusal (row_refusals revision.name revision.version tables.bundles.rows) due (λ reply. reply ≡ installs None count) refusal given)))

-- ---- the world with one more bundle

pub sound_of : (world : World) (issued : ℕ) → IsKeptWorld world issued → IsSound world
sound_of world issued kept = record { consistent = kept.consistent; is_world = kept.is_world; ordered = kept.ordered }

-- a revision that is not known is not in use
unused : (world : World) (r : RevisionId) → IsSound world → ¬ IsKnown world.known r → is_in_use world.wirings r ≡ false
unused world r sound unknown = by (is_in_use world.wirings r) refl
  where
    by : (t : Bool) → is_in_use world.wirings r ≡ t → is_in_use world.wirings r ≡ false
    by false is = is
    by true is =
        let grown : Grown world.known world.known world.wirings = record { same = λ s k. refl; is_world = sound.is_world; consistent = sound.consistent } in
        absurd (unknown (use-known grown r (in_use-true world.wirings r is)))

-- ---- the bundle is installed

-- as the table and the wirings have it
pub record Installs (old : Tables) (new : TableRows) (after : WiringState) (location : List ℕ) (row : ℕ) (revision : Revision) (manifest : List ℕ) (id : BundleId) : Type 0 where
  pub none : row_from location old.bundles.rows ≡ None
  pub is : stored_at old.depot.rows location ≡ Some (stored.Read revision manifest)
  pub number : row ≡ row_number old.depot.rows location
  pub given : Gives (row_refusals revision.name revision.version old.bundles.rows) (λ (id : BundleId). id.0 ≡ old.bundles.issued + 1) (answers id)
  pub stands : StandsAfter location revision.name revision.version (is_some revision.host) row id old.bundles new
  pub brought : IsBrought id revision old.wirings after

module _ (old : Tables) (new : TableRows) (after : WiringState) (location : List ℕ) (row : ℕ) (revision : Revision) (manifest : List ℕ) (id : BundleId) (i : Installs old new after location row revision manifest id) where
  next : id.0 ≡ old.bundles.issued + 1
  next = gives_due (row_refusals revision.name revision.version old.bundles.rows) (λ (id : BundleId). id.0 ≡ old.bundles.issued + 1) id i.given

  installed_due : (now : Moment) → StandsFor (at now old) old → IsReply (at now old) (op.Install location) (answer.Bundle id false)
  installed_due now stood =
      let count = length (installed now.before) in
      let here : stored_at now.setting.depot location ≡ Some (stored.Read revision manifest) = subst (λ (rows : List DepotRow). stored_at rows location ≡ Some (stored.Read revision manifest)) stood.depot i.is in
      let said : answer.Bundle id false ≡ answer.Bundle (record { 0 = count + 1 }) false = λ j. answer.Bundle (record { 0 = (next ∙ ap (λ n. n + 1) stood.bundles.issued) j }) false in
      given_new (bundle_from now.setting.depot now.before location) (at now old) location count (answers (answer.Bundle id false)) (new_location (at now old) old location stood i.none)
      (by_rows (at now old) old.bundles location revision manifest (λ reply. reply ≡ installs None count) (answers (answer.Bundle id false)) stood.bundles here
      (gives_answer (row_refusals revision.name revision.version old.bundles.rows) (λ (id : BundleId). id.0 ≡ old.bundles.issued + 1) (λ reply. reply ≡ installs None count) id (answer.Bundle id false) i.given said))

  -- the world that is left
  left_world : (now : Moment) → StandsFor (at now old) old → after.world ≡ with_revision old.wirings.world (record { 0 = revisions now.before + 1 }) id revision
  left_world now stood = i.brought.world ∙ ap (λ n. with_revision old.wirings.world (record { 0 = n + 1 }) id revision) stood.issued

  there : (now : Moment) → StandsFor (at now old) old → stored_revision now.setting.depot location ≡ Some revision
  there now stood = ap revision_in (subst (λ (rows : List DepotRow). stored_at rows location ≡ Some (stored.Read revision manifest)) stood.depot i.is)

  installed_left : (now : Moment) → StandsFor (at now old) old → Leaves (at now old) (op.Install location) (answer.Bundle id false) after.world
  installed_left now stood = record { revision = revision; read = there now stood; is = left_world now stood }

  numbered : (now : Moment) → StandsFor (at now old) old → id.0 ≡ length (installed now.before) + 1
  numbered now stood = next ∙ ap (λ n. n + 1) stood.bundles.issued

  -- the bundle is new to the world and to the history
  is_new : (now : Moment) → IsTold (at now old) → StandsFor (at now old) old → IsNewBundle old.wirings.world now.before (record { 0 = revisions now.before + 1 }) id
  is_new now told stood =
      let r : RevisionId = record { 0 = revisions now.before + 1 } in
      let number = numbered now stood in
      let unknown : ¬ IsKnown old.wirings.world.known r = subst (λ n. ¬ IsKnown old.wirings.world.known (record { 0 = n + 1 })) stood.issued i.brought.known.unknown in
      let above : length (installed now.before) < id.0 = omega (arith, number) in
      let rests = never-given (at now old) told id above in
      record {
        no_current = fresh-at (at now old) told id above;
        unused = unused old.wirings.world r stood.sound unknown;
        at_rest = rests.0;
        never_begun = rests.1;
      }

  installed_stands : (now : Moment) → IsTold (at now old) → StandsFor (at now old) old → StandsFor (later (at now old) (op.Install location) (answer.Bundle id false) after.world []) (record old { bundles = new; wirings = after })
  installed_stands now told stood =
      let depot = now.setting.depot in
      let e : Entry = record { tag = now.tag; op = op.Install location; reply = answer.Bundle id false } in
      let r : RevisionId = record { 0 = revisions now.before + 1 } in
      let heard = heard_still (at now old) old (op.Install location) (answer.Bundle id false) stood refl refl (λ l. refl) refl in
      record {
        depot = stood.depot;
        budget = stood.budget;
        services = registry.stands_quiet now.before old.registry e stood.services (unsaid e (quiet_known location id false));
        bundles =
            subst (λ (w : World). bundle.StandsFor depot (now.before ++ e ∷ []) w new) (sym (left_world now stood))
            (i.stands depot now.before old.wirings.world r now.tag
            (record { revision = revision; is = there now stood; has_name = refl; has_version = refl; has_host = refl; number = i.number ∙ ap (λ (rows : List DepotRow). row_number rows location) stood.depot })
            (is_new now told stood) stood.bundles);
        brackets = brackets_left now (op.Install location) (answer.Bundle id false) old.brackets stood.brackets refl refl;
        world = refl;
        issued = i.brought.issued ∙ ap (λ n. n + 1) stood.issued ∙ sym (revisions-more now.before e refl);
        sound = sound_of after.world after.issued i.brought.holds;
        listeners = heard.listeners;
        small = heard.small;
        handings = heard.handings;
        jobs = stands-quiet now.before e old.jobs refl stood.jobs;
      }

  -- what happens is that it is installed
  installed_shown : (now : Moment) → IsTold (at now old) → StandsFor (at now old) old → AreShown (shown.bundle 1 id revision.name revision.version ∷ []) (of_bundle 1 old.wirings.world after.world id ∷ [])
  installed_shown now told stood =
      let made : BundleKept = new_row id location revision.name revision.version (is_some revision.host) row in
      let named = brought_named old.wirings.world after.world (record { 0 = revisions now.before + 1 }) made revision (is_new now told stood).no_current (left_world now stood) refl refl in
      (to_shown 1 id revision.name revision.version (of_bundle 1 old.wirings.world after.world id) (shown_after old.wirings.world after.world id revision.name revision.version named 1), tt)

  pub replied_installed : (who : Tag) → IsAnswered (record { tag = who; op = op.Install location }) old (record old { bundles = new; wirings = after }) (answer.Bundle id false) (shown.bundle 1 id revision.name revision.version ∷ [])
  replied_installed who = record {
    due = from_own old (λ now. IsReply now (op.Install location) (answer.Bundle id false)) (λ now told stood. installed_due now stood);
    left = from_own old (λ now. Leaves now (op.Install location) (answer.Bundle id false) after.world) (λ now told stood. installed_left now stood);
    happens = from_own old (λ now. AreShown (shown.bundle 1 id revision.name revision.version ∷ []) (of_bundle 1 now.world after.world id ∷ [])) installed_shown;
    stands = from_own old (λ now. StandsFor (later now (op.Install location) (answer.Bundle id false) after.world []) (record old { bundles = new; wirings = after })) installed_stands;
  }

-- ---- the bundle that is made

-- what the table answers is said of the same location, name, version and kind
pub made_said : (rows : List BundleKept) (id : BundleId) (row : ℕ) (v : Verdict Refusal BundleKept) (l k n m : List ℕ) (x y : Version) (f g : Bool) → l ≡ k → n ≡ m → x ≡ y → f ≡ g →
    Gives (row_refusals n x rows) (λ (made : BundleKept). made ≡ new_row id l n x f row) v → Gives (row_refusals m y rows) (λ (made : BundleKept). made ≡ new_row id k m y g row) v
made_said rows id row v l k n m x y f g location name version fragment given =
    subst (λ h. Gives (row_refusals m y rows) (λ (made : BundleKept). made ≡ new_row id k m y h row) v) fragment
    (subst (λ z. Gives (row_refusals m z rows) (λ (made : BundleKept). made ≡ new_row id k m z f row) v) version
    (subst (λ p. Gives (row_refusals p x rows) (λ (made : BundleKept). made ≡ new_row id k p x f row) v) name
    (subst (λ q. Gives (row_refusals n x rows) (λ (made : BundleKept). made ≡ new_row id q n x f row) v) location given)))

pub decided_installed : (tables : Tables) (location : List ℕ) (row : ℕ) (revision : Revision) (manifest : List ℕ) (made : BundleKept) → HasRoom tables → row_from location tables.bundles.rows ≡ None →
    stored_at tables.depot.rows location ≡ Some (stored.Read revision manifest) → row ≡ row_number tables.depot.rows location →
    Gives (row_refusals revision.name revision.version tables.bundles.rows) (λ (m : BundleKept). m ≡ new_row (record { 0 = tables.bundles.issued + 1 }) location revision.name revision.version (is_some revision.host) row) (answers made) →
    IsReplyAndChangeToAll (op.Install location) tables (answer.Bundle made.bundle false) (change.Install made revision)
decided_installed tables location row revision manifest made room none stored number given who =
    let id : BundleId = record { 0 = tables.bundles.issued + 1 } in
    let conditions = row_refusals revision.name revision.version tables.bundles.rows in
    let due : BundleKept → Type 0 = λ (m : BundleKept). m ≡ new_row id location revision.name revision.version (is_some revision.host) row in
    let is : made ≡ new_row id location revision.name revision.version (is_some revision.host) row = gives_due conditions due made given in
    let next : made.bundle.0 ≡ tables.bundles.issued + 1 = ap (λ (m : BundleKept). m.bundle.0) is in
    record {
      possible = record {
        next = next;
        is_new = made_new made id location revision.name revision.version (is_some revision.host) row is;
        apart =
            subst (λ (m : BundleKept). (refusal : Refusal) → ¬ IsTwin m.name m.version tables.bundles.rows refusal) (sym is)
            (made_apart revision.name revision.version tables.bundles.rows due made given);
        revisions = room.revisions;
        fresh = room.fresh made.bundle next;
      };
      cleans = refl;
      answered = λ new added.
          subst (λ t. IsAnswered (record { tag = who; op = op.Install location }) tables t (answer.Bundle made.bundle false) (shown.bundle 1 made.bundle made.name made.version ∷ [])) (sym added.is)
          (subst
          (λ (m : BundleKept). IsAnswered (record { tag = who; op = op.Install location }) tables (record tables { bundles = added.bundles; wirings = added.wirings }) (answer.Bundle made.bundle false) (shown.bundle 1 made.bundle m.name m.version ∷ []))
          (sym is) (replied_installed tables added.bundles added.wirings location row revision manifest made.bundle (record {
            none = none;
            is = stored;
            number = number;
            given = gives_answer conditions due (λ (id : BundleId). id.0 ≡ tables.bundles.issued + 1) made made.bundle given next;
            stands = subst (λ (m : BundleKept). StandsAfter m.location m.name m.version m.fragment m.row made.bundle tables.bundles added.bundles) is added.stands;
            brought = added.known;
          }) who));
    }
