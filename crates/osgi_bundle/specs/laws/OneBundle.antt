-- One bundle of a table that stands for a history: what its row says of it, and which one a target names.
use Rattle.std.proofs.Common.{◌≡◌, List, ap, sym, subst, ◌∙◌, refl}
use Rattle.std.specs.Prelude.{true, false, is_some, Option, None, Some, Contains, find, slice_index_or}
use Rattle.std.specs.Option.{option_map}
use Rattle.std.proofs.lemmas.List.Elements.{All-contains, All-contains_itself}
use Rattle.osgi_base.specs.declared.ids.BundleId.{BundleId}
use Rattle.osgi_bundle.specs.Rows.{row_at, TableRows}
use Rattle.osgi_bundle.specs.Stands.{kept_of, StandsFor}
use Rattle.osgi_bundle.specs.Targets.{IsFirstRow, IsTargetRow}
use Rattle.osgi_bundle.specs.declared.kept.BundleKept.{BundleKept}
use Rattle.osgi_bundle.specs.laws.Standing.{contains_map, contains_of, is_bundle_of, no_row, row_of_bundle, some_row}
use Rattle.osgi_ops.specs.Bundles.{Bundle, bundles, is_live, last_begin, number_of, row_of, state}
use Rattle.osgi_ops.specs.Conditions.{IsPreferredTo, IsTarget}
use Rattle.osgi_ops.specs.Moments.{Moment}
use Rattle.osgi_ops.specs.Resolved.{is_fragment_bundle}
use Rattle.osgi_ops.specs.declared.depot.DepotRow.{DepotRow}
use Rattle.osgi_ops.specs.declared.entry.Entry.{Entry}
use Rattle.osgi_ops.specs.declared.target.Target.{Target}
use Rattle.osgi_ops.specs.declared.target.Target.TheVariants.{Id, Name}
use Rattle.osgi_ops.specs.laws.Bundles.{HaveRows, row-live}
use Rattle.osgi_world.specs.declared.world.World.{World}

-- ---- its row

-- a bundle that is not live has no row, and the row of one that is live is what is kept of it
pub data SaysRow (depot : List DepotRow) (history : List Entry) (world : World) (id : BundleId) : Option BundleKept → Type 0 where
  gone : is_live id history ≡ false → SaysRow depot history world id None
  live : (b : Bundle) → Contains (bundles depot history) b → b.bundle ≡ id → is_live id history ≡ true → SaysRow depot history world id (Some (kept_of world history b))

-- at a history where each live bundle has its row
pub says_row : (depot : List DepotRow) (history : List Entry) (world : World) (table : TableRows) (id : BundleId) → StandsFor depot history world table → HaveRows depot history → SaysRow depot history world id (row_at id table.rows)
says_row depot history world table id stands rows =
    subst (SaysRow depot history world id) (sym (row_of_bundle depot history world table id stands)) (by (find (is_bundle_of id) (bundles depot history)) refl)
  where
    by : (o : Option Bundle) → find (is_bundle_of id) (bundles depot history) ≡ o → SaysRow depot history world id (option_map (kept_of world history) o)
    by None none = gone (no_row depot history id rows none)
    by (Some b) some =
        let there = some_row depot history id b some in
        live b there.0 there.1 (subst (λ (c : BundleId). is_live c history ≡ true) there.1 (row-live depot history b there.0))

-- the bundle of a row that was found
pub record IsRowOf (depot : List DepotRow) (history : List Entry) (world : World) (id : BundleId) (row : BundleKept) : Type 0 where
  pub bundle : Bundle
  pub there : Contains (bundles depot history) bundle
  pub same : bundle.bundle ≡ id
  pub is : row ≡ kept_of world history bundle

pub found_row : (depot : List DepotRow) (history : List Entry) (world : World) (table : TableRows) (id : BundleId) (row : BundleKept) → StandsFor depot history world table → row_at id table.rows ≡ Some row → IsRowOf depot history world id row
found_row depot history world table id row stands found = by (find (is_bundle_of id) (bundles depot history)) refl (sym (row_of_bundle depot history world table id stands) ∙ found)
  where
    by : (o : Option Bundle) → find (is_bundle_of id) (bundles depot history) ≡ o → option_map (kept_of world history) o ≡ Some row → IsRowOf depot history world id row
    by None none is = absurd (cc is)
    by (Some b) some is =
        let there = some_row depot history id b some in
        record { bundle = b; there = there.0; same = there.1; is = (let e : Some row ≡ Some (kept_of world history b) = sym is in cc e) }

module _ (depot : List DepotRow) (history : List Entry) (world : World) (id : BundleId) (row : BundleKept) (of : IsRowOf depot history world id row) where
  -- it is live
  pub row_live : is_live id history ≡ true
  row_live = subst (λ (c : BundleId). is_live c history ≡ true) of.same (row-live depot history of.bundle of.there)

  -- the state
  pub row_state : row.state ≡ number_of (state world history id)
  row_state = ap (λ (r : BundleKept). r.state) of.is ∙ ap (λ (c : BundleId). number_of (state world history c)) of.same

  -- the tag of its last begin
  pub row_by : row.by ≡ last_begin id history
  row_by = ap (λ (r : BundleKept). r.by) of.is ∙ ap (λ (c : BundleId). last_begin c history) of.same

  -- whether it is a fragment, where the current revisions are what the rows show
  pub row_fragment : ((b : Bundle) → Contains (bundles depot history) b → is_fragment_bundle world b.bundle ≡ is_some b.revision.host) → row.fragment ≡ is_fragment_bundle world id
  row_fragment current = ap (λ (r : BundleKept). r.fragment) of.is ∙ sym (current of.bundle of.there) ∙ ap (is_fragment_bundle world) of.same

  -- the number of the depot's row, where that is what the rows show
  pub row_number_of : ((b : Bundle) → Contains (bundles depot history) b → row_of depot history b.bundle ≡ b.row) → row.row ≡ row_of depot history id
  row_number_of numbered = ap (λ (r : BundleKept). r.row) of.is ∙ sym (numbered of.bundle of.there) ∙ ap (row_of depot history) of.same

-- ---- targets

module _ (now : Moment) (table : TableRows) (stands : StandsFor now.setting.depot now.before now.world table) where
  in_rows : (b : Bundle) → Contains (bundles now.setting.depot now.before) b → Contains table.rows (kept_of now.world now.before b)
  in_rows b there = subst (λ l. Contains l (kept_of now.world now.before b)) (sym stands.rows) (contains_map (kept_of now.world now.before) (bundles now.setting.depot now.before) b there)

  of_rows : (row : BundleKept) → Contains table.rows row → (b : Bundle) × Contains (bundles now.setting.depot now.before) b × (row ≡ kept_of now.world now.before b)
  of_rows row there = contains_of (kept_of now.world now.before) (bundles now.setting.depot now.before) row (subst (λ l. Contains l row) stands.rows there)

  -- what the table takes a target for is the target
  pub target_of_rows : (target : Target) (bundle : BundleId) → HaveRows now.setting.depot now.before → IsTargetRow target table.rows bundle → IsTarget now target bundle
  target_of_rows (Id id) bundle rows is = (is.0, by (row_at id table.rows) (says_row now.setting.depot now.before now.world table id stands rows) is.1)
    where
      by : (o : Option BundleKept) → SaysRow now.setting.depot now.before now.world id o → ¬ (o ≡ None) → is_live id now.before ≡ true
      by None said some = absurd (some refl)
      by (Some row) (live b there same alive) some = alive
  target_of_rows (Name name) bundle rows is =
      let from = of_rows is.row is.live in
      let each : (other : Bundle) → Contains (bundles now.setting.depot now.before) other → other.revision.name ≡ name → IsPreferredTo from.0 other = λ other there named.
      subst (λ (r : BundleKept). IsFirstRow r (kept_of now.world now.before other)) from.2
      (All-contains (λ (o : BundleKept). o.name ≡ name → IsFirstRow is.row o) table.rows (kept_of now.world now.before other) is.first (in_rows other there) named) in
      record {
        row = from.0;
        live = from.1;
        is = ap (λ (r : BundleKept). r.bundle) (sym from.2) ∙ is.is;
        named = ap (λ (r : BundleKept). r.name) (sym from.2) ∙ is.named;
        first = λ k d within. each (slice_index_or (bundles now.setting.depot now.before) k d) (All-contains_itself (bundles now.setting.depot now.before) k d within);
      }

  -- and the other way round
  pub rows_of_target : (target : Target) (bundle : BundleId) → HaveRows now.setting.depot now.before → IsTarget now target bundle → IsTargetRow target table.rows bundle
  rows_of_target (Id id) bundle rows is = (is.0, by (row_at id table.rows) (says_row now.setting.depot now.before now.world table id stands rows))
    where
      by : (o : Option BundleKept) → SaysRow now.setting.depot now.before now.world id o → ¬ (o ≡ None)
      by None (gone dead) none = (let bad : true ≡ false = sym is.1 ∙ dead in cc bad)
      by (Some row) said none = cc none
  rows_of_target (Name name) bundle rows is =
      let each : (other : BundleKept) → Contains table.rows other → other.name ≡ name → IsFirstRow (kept_of now.world now.before is.row) other = λ other there named.
      let from = of_rows other there in
      subst (λ (r : BundleKept). IsFirstRow (kept_of now.world now.before is.row) r) (sym from.2)
      (All-contains (λ (o : Bundle). o.revision.name ≡ name → IsPreferredTo is.row o) (bundles now.setting.depot now.before) from.0 is.first from.1 (ap (λ (r : BundleKept). r.name) (sym from.2) ∙ named)) in
      record {
        row = kept_of now.world now.before is.row;
        live = in_rows is.row is.live;
        is = is.is;
        named = is.named;
        first = λ k d within. each (slice_index_or table.rows k d) (All-contains_itself table.rows k d within);
      }
