-- A table that stands for a history: after one more entry, and what it says of the history's bundles.
use Rattle.std.proofs.Common.{◌≡◌, ◌+◌, ◌<◌, ◌≤◌, ℕ, List, [], ◌∷◌, ◌++◌, length, length-append, map, ap, sym, subst, ◌∙◌, refl, arith}
use Rattle.std.specs.Prelude.{◌==◌, ◌||◌, Bool, true, false, cond, nat_le, Option, None, Some, All, Contains, find, slice_index_or}
use Rattle.std.specs.List.{cons_option, filter_map, list_any}
use Rattle.std.specs.Option.{option_map}
use Rattle.std.proofs.lemmas.Bool.{eq-eqb, eqb-true, false_from_ne_true, ne_eqb, or_right}
use Rattle.std.proofs.lemmas.List.{get_or-map, length-map, map-append}
use Rattle.std.proofs.lemmas.List.Elements.{All-contains, All-contains_itself, All-map}
use Rattle.osgi_base.specs.declared.ids.BundleId.{BundleId}
use Rattle.osgi_base.specs.declared.ids.RevisionId.{RevisionId}
use Rattle.osgi_base.specs.declared.ids.Tag.{Tag}
use Rattle.osgi_bundle.specs.Rows.{bundle_from, bundle_number, first_level_of, has_bundle_id, has_location_row, IsTwin, new_row, row_at, row_of, state_at, state_by, TableRows}
use Rattle.osgi_bundle.specs.Stands.{IsNewBundle, IsOfDepot, kept_of, StandsFor}
use Rattle.osgi_bundle.specs.laws.Worlds.{resolved_other, unresolved_new}
use Rattle.osgi_bundle.specs.declared.kept.BundleKept.{BundleKept}
use Rattle.osgi_ops.specs.Bundles.{Active, Bundle, bundle_from as bundle_of, bundles, idle, installed, installed_by, is_live, is_uninstall, last_begin, number_of, phase, put_into, row_from, running, state, Uninstalled, updated_to, was_given}
use Rattle.osgi_ops.specs.Conditions.{IsDuplicate, state_of}
use Rattle.osgi_ops.specs.Depots.{row_number, stored_revision}
use Rattle.osgi_ops.specs.Levels.{level_of}
use Rattle.osgi_ops.specs.Moments.{Moment}
use Rattle.osgi_ops.specs.Resolved.{is_resolved}
use Rattle.osgi_ops.specs.Worlds.{with_revision}
use Rattle.osgi_ops.specs.declared.depot.DepotRow.{DepotRow}
use Rattle.osgi_ops.specs.declared.entry.Entry.{Entry}
use Rattle.osgi_ops.specs.declared.op.Op.TheVariants as op
use Rattle.osgi_ops.specs.declared.refusal.Refusal.{Refusal}
use Rattle.osgi_ops.specs.declared.refusal.Refusal.TheVariants.{DuplicateBundle}
use Rattle.osgi_ops.specs.declared.reply.Reply.TheVariants as answer
use Rattle.osgi_ops.specs.declared.state.TheConstants.{UNINSTALLED}
use Rattle.osgi_ops.specs.laws.Bundles.{bundles-push, has_id, HaveRows, installed-push, is_live-kept, last_begin-kept, later, phase-kept, row-live, was_given-is}
use Rattle.osgi_ops.specs.laws.Items.{contains-In, find-some, found-in, In-contains}
use Rattle.osgi_ops.specs.laws.Members.{Contains-first, Contains-more}
use Rattle.osgi_ops.specs.rows.Lists.{bundle_row}
use Rattle.osgi_ops.specs.Waiting.{is_waiting}
use Rattle.osgi_ops.specs.declared.state.TheConstants.{STARTING}
use Rattle.osgi_version.specs.declared.version.Version.{Version}
use Rattle.osgi_world.specs.declared.revision.Revision.{Revision}
use Rattle.osgi_world.specs.declared.world.World.{World}

-- ---- what is kept of a bundle

pub map_twice : {X Y Z : Type 0} (f : Y → Z) (g : X → Y) (xs : List X) → map f (map g xs) ≡ map (λ x. f (g x)) xs
map_twice f g [] = refl
map_twice f g (x ∷ xs) = ap (λ l. f (g x) ∷ l) (map_twice f g xs)

pub map_alike : {X Y : Type 0} (f g : X → Y) (xs : List X) → ((x : X) → Contains xs x → f x ≡ g x) → map f xs ≡ map g xs
map_alike f g [] same = refl
map_alike f g (x ∷ xs) same = λ i. same x (Contains-first x xs) i ∷ map_alike f g xs (λ y there. same y (Contains-more x xs y there)) i

pub contains_map : {X Y : Type 0} (f : X → Y) (xs : List X) (x : X) → Contains xs x → Contains (map f xs) (f x)
contains_map f xs x there =
    (there.0, subst (λ n. there.0 < n) (sym (length-map xs f)) there.1, get_or-map f xs there.0 x (f x) there.1 ∙ ap f there.2)

-- it depends on the state and on the last begin alone
pub kept_alike : (V W : World) (g h : List Entry) (b : Bundle) → state V g b.bundle ≡ state W h b.bundle → last_begin b.bundle g ≡ last_begin b.bundle h → kept_of V g b ≡ kept_of W h b
kept_alike V W g h b same begun = λ i. record (kept_of V g b) { state = number_of (same i); by = begun i }

-- and the state on whether the bundle is live and resolved, and on its phase
pub state_alike : (V W : World) (g h : List Entry) (b : BundleId) → is_live b g ≡ is_live b h → phase b g ≡ phase b h → is_resolved V b ≡ is_resolved W b → state V g b ≡ state W h b
state_alike V W g h b live phased resolved = λ i. cond (b.0 == 0) Active (cond (live i) (running (phased i) (resolved i)) Uninstalled)

-- ---- histories that are read alike

-- the table reads this of a history, and no more
pub record BundlesReadAlike (depot : List DepotRow) (g h : List Entry) : Type 0 where
  pub rows : bundles depot g ≡ bundles depot h
  pub issued : length (installed g) ≡ length (installed h)
  pub live : (b : BundleId) → is_live b g ≡ is_live b h
  pub phases : (b : BundleId) → phase b g ≡ phase b h
  pub begun : (b : BundleId) → last_begin b g ≡ last_begin b h

pub stands_alike : (depot : List DepotRow) (g h : List Entry) (world : World) (table : TableRows) → BundlesReadAlike depot g h → StandsFor depot g world table → StandsFor depot h world table
stands_alike depot g h world table alike stands = record {
  rows =
      stands.rows
      ∙ map_alike (kept_of world g) (kept_of world h) (bundles depot g)
      (λ b there. kept_alike world world g h b (state_alike world world g h b.bundle (alike.live b.bundle) (alike.phases b.bundle) refl) (alike.begun b.bundle))
      ∙ ap (map (kept_of world h)) alike.rows;
  issued = stands.issued ∙ alike.issued;
}

-- ---- after one more entry

-- an entry that says nothing of bundles and their phases
pub record IsQuietOfBundles (e : Entry) : Type 0 where
  pub installs : (n : ℕ) (since : List Entry) → installed_by n e.op e.reply since ≡ []
  pub uninstalls : (b : BundleId) → is_uninstall b e.op e.reply ≡ false
  pub updates : (b : BundleId) → updated_to b e.op e.reply ≡ None
  pub puts : (b : BundleId) → put_into b e.op e.reply ≡ None

length_later : (history : List Entry) (e : Entry) → length (installed (history ++ e ∷ [])) ≡ length (installed history) + length (installed_by (length (installed history)) e.op e.reply [])
length_later history e =
    let new = installed_by (length (installed history)) e.op e.reply [] in
    ap length (installed-push history e) ∙ length-append (map (later e) (installed history)) new ∙ ap (λ n. n + length new) (length-map (installed history) (later e))

append_none : {X : Type 0} (xs ys : List X) → ys ≡ [] → xs ++ ys ≡ xs
append_none [] ys none = none
append_none (x ∷ xs) ys none = ap (λ l. x ∷ l) (append_none xs ys none)

or_none : (x y : Bool) → y ≡ false → (x || y) ≡ x
or_none true y none = refl
or_none false y none = none

-- entries that install, uninstall and update nothing leave the bundles as they were
module _ (depot : List DepotRow) (history : List Entry) (e : Entry) (installs : (n : ℕ) (since : List Entry) → installed_by n e.op e.reply since ≡ []) (uninstalls : (b : BundleId) → is_uninstall b e.op e.reply ≡ false) where
  pub same_bundles : ((b : BundleId) → updated_to b e.op e.reply ≡ None) → bundles depot (history ++ e ∷ []) ≡ bundles depot history
  same_bundles updates = bundles-push depot history e uninstalls updates ∙ append_none (bundles depot history) _ (ap (filter_map (row_from depot)) (installs (length (installed history)) []))

  pub same_count : length (installed (history ++ e ∷ [])) ≡ length (installed history)
  same_count =
      length_later history e
      ∙ ap (λ l. length (installed history) + length l) (installs (length (installed history)) [])
      ∙ (let same : length (installed history) + 0 ≡ length (installed history) = omega arith in same)

  pub same_live : (b : BundleId) → is_live b (history ++ e ∷ []) ≡ is_live b history
  same_live b = is_live-kept b history e uninstalls ∙ or_none (is_live b history) _ (ap (list_any (has_id b)) (installs (length (installed history)) []))

pub alike_quiet : (depot : List DepotRow) (history : List Entry) (e : Entry) → IsQuietOfBundles e → BundlesReadAlike depot history (history ++ e ∷ [])
alike_quiet depot history e quiet = record {
  rows = sym (same_bundles depot history e quiet.installs quiet.uninstalls quiet.updates);
  issued = sym (same_count depot history e quiet.installs quiet.uninstalls);
  live = λ b. sym (same_live depot history e quiet.installs quiet.uninstalls b);
  phases = λ b. sym (phase-kept b history e (quiet.puts b));
  begun = λ b. sym (last_begin-kept b history e (quiet.puts b));
}

-- such an entry, in the same world
pub stands_quiet : (depot : List DepotRow) (history : List Entry) (world : World) (table : TableRows) (e : Entry) → StandsFor depot history world table → IsQuietOfBundles e → StandsFor depot (history ++ e ∷ []) world table
stands_quiet depot history world table e stands quiet = stands_alike depot history (history ++ e ∷ []) world table (alike_quiet depot history e quiet) stands

-- ---- an Install that was accepted

-- the row of the bundle that it brings
abbrev brought : List DepotRow → BundleId → List ℕ → Revision → Bundle
brought depot id location revision = record { bundle = id; location = location; row = row_number depot location; revision = revision }

abbrev install : Tag → List ℕ → BundleId → Entry
install tag location id = record { tag = tag; op = op.Install location; reply = answer.Bundle id false }

module _ (depot : List DepotRow) (history : List Entry) (tag : Tag) (location : List ℕ) (id : BundleId) (numbered : id.0 ≡ length (installed history) + 1) where
  same_number : (b : BundleId) → (length (installed history) + 1 == b.0) ≡ (id.0 == b.0)
  same_number b = ap (λ n. n == b.0) (sym numbered)

  rows_more : (revision : Revision) → stored_revision depot location ≡ Some revision → bundles depot (history ++ install tag location id ∷ []) ≡ bundles depot history ++ brought depot id location revision ∷ []
  rows_more revision is =
      bundles-push depot history (install tag location id) (λ b. refl) (λ b. refl)
      ∙ (λ i. bundles depot history ++ cons_option (option_map (brought depot (record { 0 = sym numbered i }) location) (is i)) [])

  live_more : (b : BundleId) → is_live b (history ++ install tag location id ∷ []) ≡ (is_live b history || (id.0 == b.0))
  live_more b = is_live-kept b history (install tag location id) (λ c. refl) ∙ ap (λ k. is_live b history || k) (or_none (length (installed history) + 1 == b.0) false refl ∙ same_number b)

-- what is added is what is kept of the bundle that is brought
kept_brought : (depot : List DepotRow) (history : List Entry) (tag : Tag) (location name : List ℕ) (version : Version) (fragment : Bool) (row : ℕ) (id : BundleId) (world : World) (r : RevisionId)
    (of : IsOfDepot depot location name version fragment row) → IsNewBundle world history r id → id.0 ≡ length (installed history) + 1 →
    new_row id location name version fragment row ≡ kept_of (with_revision world r id of.revision) (history ++ install tag location id ∷ []) (brought depot id location of.revision)
kept_brought depot history tag location name version fragment row id world r of new numbered =
    let e : Entry = install tag location id in
    let after : World = with_revision world r id of.revision in
    let live : is_live id (history ++ e ∷ []) ≡ true = live_more depot history tag location id numbered id ∙ or_right (is_live id history) (id.0 == id.0) (eq-eqb id.0 id.0 refl) in
    let at_rest : phase id (history ++ e ∷ []) ≡ idle = phase-kept id history e refl ∙ new.at_rest in
    let other : (id.0 == 0) ≡ false = ne_eqb id.0 0 (λ same. omega (arith, numbered, same)) in
    let is : state after (history ++ e ∷ []) id ≡ running idle false = λ i.
    cond (other i) Active (cond (live i) (running (at_rest i) (unresolved_new world r id of.revision new.no_current new.unused i)) Uninstalled) in
    λ i. record {
      bundle = id;
      location = location;
      name = of.has_name i;
      version = of.has_version i;
      fragment = of.has_host i;
      row = of.number i;
      state = number_of (sym is i);
      by = sym (last_begin-kept id history e refl ∙ new.never_begun) i;
    }

-- the others are kept as they were
kept_others : (depot : List DepotRow) (history : List Entry) (tag : Tag) (location : List ℕ) (id : BundleId) (revision : Revision) (world : World) (r : RevisionId) (b : Bundle) → id.0 ≡ length (installed history) + 1 →
    b.bundle.0 ≤ length (installed history) → kept_of world history b ≡ kept_of (with_revision world r id revision) (history ++ install tag location id ∷ []) b
kept_others depot history tag location id revision world r b numbered below =
    let e : Entry = install tag location id in
    let other : (id.0 == b.bundle.0) ≡ false = ne_eqb id.0 b.bundle.0 (λ same. omega (arith, numbered, below, same)) in
    kept_alike world (with_revision world r id revision) history (history ++ e ∷ []) b
    (state_alike world (with_revision world r id revision) history (history ++ e ∷ []) b.bundle (sym (live_more depot history tag location id numbered b.bundle ∙ or_none (is_live b.bundle history) (id.0 == b.bundle.0) other))
    (sym (phase-kept b.bundle history e refl)) (sym (resolved_other world r id revision b.bundle other)))
    (sym (last_begin-kept b.bundle history e refl))

pub stands_installed : (depot : List DepotRow) (history : List Entry) (world : World) (r : RevisionId) (old new : TableRows) (tag : Tag) (location name : List ℕ) (version : Version) (fragment : Bool) (row : ℕ) (id : BundleId)
    (of : IsOfDepot depot location name version fragment row) → IsNewBundle world history r id → All (λ row. bundle_number row ≤ old.issued) old.rows → StandsFor depot history world old → id.0 ≡ old.issued + 1 →
    new.rows ≡ old.rows ++ new_row id location name version fragment row ∷ [] → new.issued ≡ old.issued + 1 →
    StandsFor depot (history ++ record { tag = tag; op = op.Install location; reply = answer.Bundle id false } ∷ []) (with_revision world r id of.revision) new
stands_installed depot history world r old new tag location name version fragment row id of fresh given stands is rows issued =
    let e : Entry = install tag location id in
    let b : Bundle = brought depot id location of.revision in
    let after : World = with_revision world r id of.revision in
    let numbered : id.0 ≡ length (installed history) + 1 = is ∙ ap (λ n. n + 1) stands.issued in
    let below : (c : Bundle) → Contains (bundles depot history) c → c.bundle.0 ≤ length (installed history) = λ c there.
    subst (λ n. c.bundle.0 ≤ n) stands.issued
    (All-contains (λ row. bundle_number row ≤ old.issued) old.rows (kept_of world history c) given (subst (λ l. Contains l (kept_of world history c)) (sym stands.rows) (contains_map (kept_of world history) (bundles depot history) c there))) in
    record {
      rows =
          rows
          ∙ (λ i. (stands.rows
          ∙ map_alike (kept_of world history) (kept_of after (history ++ e ∷ [])) (bundles depot history) (λ c there. kept_others depot history tag location id of.revision world r c numbered (below c there))) i
          ++ kept_brought depot history tag location name version fragment row id world r of fresh numbered i ∷ [])
          ∙ sym (map-append (kept_of after (history ++ e ∷ [])) (bundles depot history) (b ∷ []))
          ∙ ap (map (kept_of after (history ++ e ∷ []))) (sym (rows_more depot history tag location id numbered of.revision of.is));
      issued = issued ∙ ap (λ n. n + 1) stands.issued ∙ sym (length_later history e);
    }

-- ---- what the rows say of the bundles

-- what is found of what is made of the items is made of what is found of them
pub found_map : {X Y : Type 0} (f : X → Y) (p : Y → Bool) (xs : List X) → find p (map f xs) ≡ option_map f (find (λ x. p (f x)) xs)
found_map f p [] = refl
found_map f p (x ∷ xs) = by (p (f x)) (found_map f p xs)
  where
    by : (here : Bool) → find p (map f xs) ≡ option_map f (find (λ y. p (f y)) xs) → cond here (Some (f x)) (find p (map f xs)) ≡ option_map f (cond here (Some x) (find (λ y. p (f y)) xs))
    by true more = refl
    by false more = more

abbrev pub is_bundle_of : BundleId → Bundle → Bool
is_bundle_of id b = b.bundle.0 == id.0

-- the row of a bundle is what is kept of the bundle
pub row_of_bundle : (depot : List DepotRow) (history : List Entry) (world : World) (table : TableRows) (id : BundleId) → StandsFor depot history world table →
    row_at id table.rows ≡ option_map (kept_of world history) (find (is_bundle_of id) (bundles depot history))
row_of_bundle depot history world table id stands = ap (row_at id) stands.rows ∙ found_map (kept_of world history) (has_bundle_id id) (bundles depot history)

bundle_by : (world : World) (history : List Entry) (o : Option Bundle) → option_map (λ (row : BundleKept). row.bundle) (option_map (kept_of world history) o) ≡ option_map (λ (b : Bundle). b.bundle) o
bundle_by world history None = refl
bundle_by world history (Some b) = refl

-- the bundle from a location is the history's
pub from_location : (depot : List DepotRow) (history : List Entry) (world : World) (table : TableRows) (location : List ℕ) → StandsFor depot history world table →
    bundle_from location table.rows ≡ option_map (λ (b : Bundle). b.bundle) (bundle_of depot history location)
from_location depot history world table location stands =
    ap (bundle_from location) stands.rows
    ∙ ap (option_map (λ (row : BundleKept). row.bundle)) (found_map (kept_of world history) (has_location_row location) (bundles depot history))
    ∙ bundle_by world history (bundle_of depot history location)

-- a list of the rows shows the bundles, where each has the level that it began with and none waits
pub rows_shown : (now : Moment) (table : TableRows) → StandsFor now.setting.depot now.before now.world table → ((b : BundleId) → level_of b now.before ≡ first_level_of b) → ((b : BundleId) → is_waiting b now.before ≡ false) →
    map row_of table.rows ≡ map (bundle_row now) (bundles now.setting.depot now.before)
rows_shown now table stands levels none =
    ap (map row_of) stands.rows
    ∙ map_twice row_of (kept_of now.world now.before) (bundles now.setting.depot now.before)
    ∙ (λ i. map (λ b. record (bundle_row now b) { level = sym (levels b.bundle) i; state = cond (sym (none b.bundle) i) STARTING (number_of (state_of now b.bundle)) }) (bundles now.setting.depot now.before))

-- ---- bundles of one name and version

pub contains_of : {X Y : Type 0} (f : X → Y) (xs : List X) (y : Y) → Contains (map f xs) y → (x : X) × Contains xs x × (y ≡ f x)
contains_of {X} f xs y there =
    All-contains (λ z. (x : X) × Contains xs x × (z ≡ f x)) (map f xs) y
    (All-map (λ z. (x : X) × Contains xs x × (z ≡ f x)) f xs (λ k d within. (slice_index_or xs k d, All-contains_itself xs k d within, refl))) there

-- a row of the name and version is that of a bundle with them
pub twin_is_duplicate : (now : Moment) (table : TableRows) (location : List ℕ) (revision : Revision) (refusal : Refusal) → StandsFor now.setting.depot now.before now.world table → stored_revision now.setting.depot location ≡ Some revision →
    IsTwin revision.name revision.version table.rows refusal → IsDuplicate now None location refusal
twin_is_duplicate now table location revision refusal stands is twin =
    let found = contains_of (kept_of now.world now.before) (bundles now.setting.depot now.before) twin.other (subst (λ l. Contains l twin.other) stands.rows twin.live) in
    record {
      revision = revision;
      is = is;
      other = found.0;
      live = found.1;
      apart = λ same. absurd (cc same);
      name = ap (λ (r : BundleKept). r.name) (sym found.2) ∙ twin.same_name;
      version = ap (λ (r : BundleKept). r.version) (sym found.2) ∙ twin.same_version;
      says = twin.says ∙ ap (λ (r : BundleKept). DuplicateBundle r.bundle) found.2;
    }

-- and the other way round
pub duplicate_is_twin : (now : Moment) (table : TableRows) (location : List ℕ) (revision : Revision) (refusal : Refusal) → StandsFor now.setting.depot now.before now.world table → stored_revision now.setting.depot location ≡ Some revision →
    IsDuplicate now None location refusal → IsTwin revision.name revision.version table.rows refusal
duplicate_is_twin now table location revision refusal stands is duplicate =
    let same : duplicate.revision ≡ revision = cc (duplicate.is, is) in
    let kept = kept_of now.world now.before in
    record {
      other = kept duplicate.other;
      live = subst (λ l. Contains l (kept duplicate.other)) (sym stands.rows) (contains_map kept (bundles now.setting.depot now.before) duplicate.other duplicate.live);
      same_name = duplicate.name ∙ ap (λ (r : Revision). r.name) same;
      same_version = duplicate.version ∙ ap (λ (r : Revision). r.version) same;
      says = duplicate.says;
    }

-- ---- states

-- what the state of a bundle says of it: none where its id was never given, that of one that is uninstalled where it is live no more, and
-- else the history's
pub data SaysState (world : World) (history : List Entry) (id : BundleId) : Option ℕ → Type 0 where
  never : is_live id history ≡ false → was_given id history ≡ false → SaysState world history id None
  gone : is_live id history ≡ false → was_given id history ≡ true → SaysState world history id (Some UNINSTALLED)
  live : is_live id history ≡ true → SaysState world history id (Some (number_of (state world history id)))

says_by : (world : World) (history : List Entry) (id : BundleId) (given : Bool) (at : Option Bundle) → was_given id history ≡ given → (at ≡ None → is_live id history ≡ false) →
    ((b : Bundle) → at ≡ Some b → (is_live b.bundle history ≡ true) × (b.bundle.0 ≡ id.0)) → SaysState world history id (state_by (option_map (kept_of world history) at) given)
says_by world history id true None is none some = gone (none refl) is
says_by world history id false None is none some = never (none refl) is
says_by world history id given (Some b) is none some =
    let there = some b refl in
    let same : b.bundle ≡ id = λ i. record { 0 = there.1 i } in
    subst (λ (c : BundleId). SaysState world history id (Some (number_of (state world history c)))) (sym same) (live (subst (λ (c : BundleId). is_live c history ≡ true) same there.0))

-- at a history where each live bundle has its row, one with no row is not live
pub no_row : (depot : List DepotRow) (history : List Entry) (id : BundleId) → HaveRows depot history → find (is_bundle_of id) (bundles depot history) ≡ None → is_live id history ≡ false
no_row depot history id rows none = false_from_ne_true (is_live id history) (λ there.
    let row = rows id there in
    let found = find-some (is_bundle_of id) (bundles depot history) row.0 (contains-In (bundles depot history) row.0 row.1) (eq-eqb row.0.bundle.0 id.0 (ap (λ (x : BundleId). x.0) row.2)) in
    let bad : Some found.0 ≡ None = sym found.1 ∙ none in
    cc bad)

-- what is found of a bundle is of that bundle
pub some_row : (depot : List DepotRow) (history : List Entry) (id : BundleId) (b : Bundle) → find (is_bundle_of id) (bundles depot history) ≡ Some b → Contains (bundles depot history) b × (b.bundle ≡ id)
some_row depot history id b some =
    let there = found-in (is_bundle_of id) (bundles depot history) b some in
    (In-contains (bundles depot history) b there.0, (let same : b.bundle.0 ≡ id.0 = eqb-true b.bundle.0 id.0 there.1 in λ i. record { 0 = same i }))

pub says_state : (depot : List DepotRow) (history : List Entry) (world : World) (table : TableRows) (id : BundleId) → StandsFor depot history world table → HaveRows depot history → SaysState world history id (state_at id table)
says_state depot history world table id stands rows =
    subst (λ o. SaysState world history id (state_by o (nat_le id.0 table.issued))) (sym (row_of_bundle depot history world table id stands))
    (says_by world history id (nat_le id.0 table.issued) (find (is_bundle_of id) (bundles depot history)) (was_given-is id history ∙ ap (nat_le id.0) (sym stands.issued)) (no_row depot history id rows)
    (λ b some. let there = some_row depot history id b some in (row-live depot history b there.0, ap (λ (x : BundleId). x.0) there.1)))
