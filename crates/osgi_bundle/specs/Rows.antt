-- The table of bundles as contracts see it: the live bundles in rows, and what calls answer and change by them.
use Rattle.std.specs.Prelude.{ℕ, ◌≡◌, ◌≢◌, ◌==◌, ◌<◌, ◌≤◌, ◌⊎◌, nat_le, Bool, true, false, if◌then◌else◌, List, [], ◌∷◌, Option, None, Some, Result, Ok, Err, All, AllPairs, Contains, find, map, length, slice_get, IsSome, IsSomeAnd}
use Rattle.std.specs.List.Sorted.{IsStrictlyIncreasing}
use Rattle.std.specs.Option.{option_map}
use Rattle.std.specs.Str.{bytes_eq}
use Rattle.osgi_base.specs.Verdict.{Verdict, answers, refuses, Where}
use Rattle.osgi_base.specs.declared.ids.BundleId.{BundleId}
use Rattle.osgi_base.specs.declared.ids.Tag.{Tag}
use Rattle.osgi_bundle.specs.declared.kept.BundleKept.{BundleKept}
use Rattle.osgi_bundle.specs.declared.life.Begun.{Begun}
use Rattle.osgi_bundle.specs.declared.life.Begun.TheVariants.{Already, Run}
use Rattle.osgi_ops.specs.Bundles.{system}
use Rattle.osgi_ops.specs.declared.limits.TheConstants.{MAX_BUNDLES}
use Rattle.osgi_ops.specs.declared.refusal.Many.TheVariants.{Bundles}
use Rattle.osgi_ops.specs.declared.refusal.Refusal.{Refusal}
use Rattle.osgi_ops.specs.declared.refusal.Refusal.TheVariants.{ActivatorError, DuplicateBundle, InvalidOperation, NoSuchBundle, StateChange, TooMany}
use Rattle.osgi_ops.specs.declared.rows.BundleRow.{BundleRow}
use Rattle.osgi_ops.specs.States.{is_changing, is_up}
use Rattle.osgi_ops.specs.declared.state.TheConstants.{ACTIVE, INSTALLED, RESOLVED, UNINSTALLED}
use Rattle.osgi_version.specs.declared.version.Version.{Version}

-- the live bundles by rising id, the system bundle first, and how many ids were given, the system bundle's not counted
pub record TableRows : Type 0 where
  pub rows : List BundleKept
  pub issued : ℕ

abbrev pub bundle_number : BundleKept → ℕ
bundle_number row = row.bundle.0

-- the system bundle, from the empty location, stands first; the ids rise, and all of them were given
pub record AreInOrder (table : TableRows) : Type 0 where
  pub first : IsSomeAnd (slice_get table.rows 0) (λ row. (row.bundle ≡ system) × (row.location ≡ []))
  pub rising : IsStrictlyIncreasing (map bundle_number table.rows)
  pub issued : All (λ row. bundle_number row ≤ table.issued) table.rows

-- no two live bundles have the same name and the same version
abbrev pub AreApart : List BundleKept → Type 0
AreApart rows = AllPairs (λ a b. a.name ≡ b.name → ¬ (a.version ≡ b.version)) rows

abbrev pub has_bundle_id : BundleId → BundleKept → Bool
has_bundle_id id row = bundle_number row == id.0

-- the row of the bundle, if it is live
abbrev pub row_at : BundleId → List BundleKept → Option BundleKept
row_at id rows = find (has_bundle_id id) rows

abbrev pub has_location_row : List ℕ → BundleKept → Bool
has_location_row location row = bytes_eq row.location location

-- the live bundle that was installed from this location, if there is one
abbrev pub bundle_from : List ℕ → List BundleKept → Option BundleId
bundle_from location rows = option_map (λ (row : BundleKept). row.bundle) (find (has_location_row location) rows)

-- the state of a bundle of this row, or where there is none, of one that is live no more; none where the id was never given
abbrev pub state_by : Option BundleKept → Bool → Option ℕ
state_by (Some row) given = Some row.state
state_by None given = if given then Some UNINSTALLED else None

abbrev pub state_at : BundleId → TableRows → Option ℕ
state_at id table = state_by (row_at id table.rows) (nat_le id.0 table.issued)

-- a bundle as it is installed
abbrev pub new_row : BundleId → List ℕ → List ℕ → Version → Bool → ℕ → BundleKept
new_row id location name version fragment row = record {
  bundle = id;
  location = location;
  name = name;
  version = version;
  fragment = fragment;
  row = row;
  state = INSTALLED;
  by = None;
}

-- the row with this state, if it is that of the bundle
abbrev pub set_in : BundleId → ℕ → BundleKept → BundleKept
set_in id state row = if has_bundle_id id row then record row { state = state } else row

-- the rows where the state of the bundle is this
abbrev pub with_state : BundleId → ℕ → List BundleKept → List BundleKept
with_state id state rows = map (set_in id state) rows

abbrev pub resolved_state : Bool → ℕ
resolved_state resolved = if resolved then RESOLVED else INSTALLED

-- the bundle is live and not up
abbrev pub IsSettable : BundleId → List BundleKept → Type 0
IsSettable id rows = IsSomeAnd (row_at id rows) (λ (row : BundleKept). is_up row.state ≡ false)

-- the start level that a bundle has from its Install on; the system bundle's is 0. The table keeps no other
abbrev pub first_level_of : BundleId → ℕ
first_level_of id = if id.0 == 0 then 0 else 1

-- what a list of bundles shows of one
abbrev pub row_of : BundleKept → BundleRow
row_of row = record {
  bundle = row.bundle;
  state = row.state;
  level = first_level_of row.bundle;
  name = row.name;
  version = row.version;
}

-- ---- refusals

-- a live bundle has this name and this version
pub record IsTwin (name : List ℕ) (version : Version) (rows : List BundleKept) (refusal : Refusal) : Type 0 where
  pub other : BundleKept
  pub live : Contains rows other
  pub same_name : other.name ≡ name
  pub same_version : other.version ≡ version
  pub says : refusal ≡ DuplicateBundle other.bundle

-- why no row is added for a bundle: one of its name and version is there, or there are as many bundles as may be, besides the system bundle.
-- Of the depot the table knows nothing
abbrev pub row_refusals : List ℕ → Version → List BundleKept → List (Refusal → Type 0)
row_refusals name version rows = IsTwin name version rows ∷ Where (TooMany Bundles) (MAX_BUNDLES < length rows) ∷ []

-- an answer as a verdict
abbrev pub verdict_of : {A : Type 0} → Result A Refusal → Verdict Refusal A
verdict_of (Ok answer) = answers answer
verdict_of (Err refusal) = refuses refusal

-- ---- starts and stops

-- the bundle is in this state
abbrev pub IsInState : ℕ → BundleId → List BundleKept → Type 0
IsInState state id rows = IsSomeAnd (row_at id rows) (λ (row : BundleKept). row.state ≡ state)

-- the row is of no fragment, and its bundle's state is none of installed, starting, stopping and active
abbrev pub MayStart : BundleKept → Type 0
MayStart row = (row.fragment ≡ false) × (row.state ≢ INSTALLED) × (is_changing row.state ≡ false) × (row.state ≢ ACTIVE)

-- so that the table lets a start of the bundle begin
abbrev pub IsStartable : BundleId → List BundleKept → Type 0
IsStartable id rows = IsSomeAnd (row_at id rows) MayStart

-- the bundle is active and not the system bundle, so that the table lets a stop of it begin
abbrev pub IsStoppable : BundleId → List BundleKept → Type 0
IsStoppable id rows = (id ≢ system) × IsInState ACTIVE id rows

-- a bundle that is starting or stopping is so since a line began that
abbrev pub IsBegun : BundleKept → Type 0
IsBegun row = is_changing row.state ≡ true → IsSome row.by

-- no start or stop of the bundle, which is live, is under way
abbrev pub IsInNoChange : BundleId → List BundleKept → Type 0
IsInNoChange id rows = IsSomeAnd (row_at id rows) (λ (row : BundleKept). is_changing row.state ≡ false)

-- the bundle is in this state since the line of the tag began that
abbrev pub IsInChange : ℕ → Tag → BundleId → List BundleKept → Type 0
IsInChange state tag id rows = IsSomeAnd (row_at id rows) (λ (row : BundleKept). (row.state ≡ state) × (row.by ≡ Some tag))

-- the row in this state that the line of the tag began, if it is that of the bundle
abbrev pub begun_in : BundleId → ℕ → Tag → BundleKept → BundleKept
begun_in id state tag row = if has_bundle_id id row then record row { state = state; by = Some tag } else row

-- the rows where the line of the tag began that the bundle is in this state
abbrev pub with_begun : BundleId → ℕ → Tag → List BundleKept → List BundleKept
with_begun id state tag rows = map (begun_in id state tag) rows

-- the rows after a begin came to this: where there was nothing to do they stay
abbrev pub rows_begun : BundleId → ℕ → Tag → List BundleKept → Begun → List BundleKept
rows_begun id state tag rows (Run row) = with_begun id state tag rows
rows_begun id state tag rows Already = rows

-- a bundle that was started is active, unless its start failed
abbrev pub started_state : Bool → ℕ
started_state failed = if failed then RESOLVED else ACTIVE

-- the bundle is not live
abbrev pub no_such_row : BundleId → List BundleKept → Refusal → Type 0
no_such_row id rows = Where NoSuchBundle (row_at id rows ≡ None)

-- the bundle is a fragment, or not resolved, so it cannot be started
abbrev pub IsUnstartable : BundleId → List BundleKept → Type 0
IsUnstartable id rows = IsSomeAnd (row_at id rows) (λ (row : BundleKept). (row.fragment ≡ true) ⊎ (row.state ≡ INSTALLED))

-- the bundle is starting or stopping, which the call that is named began
abbrev pub changing_row : BundleId → List BundleKept → Refusal → Type 0
changing_row id rows refusal =
    IsSomeAnd (row_at id rows) (λ (row : BundleKept). (is_changing row.state ≡ true) × IsSomeAnd row.by (λ by. refusal ≡ StateChange by))

-- why a start does not begin, by the row of the bundle. Of levels, brackets and refreshes, by which the rules refuse a start, too, the
-- table knows nothing
abbrev pub start_refusals : BundleId → List BundleKept → List (Refusal → Type 0)
start_refusals id rows = no_such_row id rows ∷ Where InvalidOperation (IsUnstartable id rows) ∷ changing_row id rows ∷ []

-- a start begins, unless the bundle is active
abbrev pub StartBegins : BundleId → List BundleKept → Begun → Type 0
StartBegins id rows begun = IsSomeAnd (row_at id rows) (λ (row : BundleKept). begun ≡ (if row.state == ACTIVE then Already else Run row.row))

-- why a stop does not begin, by the row of the bundle
abbrev pub stop_refusals : BundleId → List BundleKept → List (Refusal → Type 0)
stop_refusals id rows = no_such_row id rows ∷ Where InvalidOperation (id ≡ system) ∷ changing_row id rows ∷ []

-- a stop begins, if the bundle is active
abbrev pub StopBegins : BundleId → List BundleKept → Begun → Type 0
StopBegins id rows begun = IsSomeAnd (row_at id rows) (λ (row : BundleKept). begun ≡ (if row.state == ACTIVE then Run row.row else Already))

-- why a start or a stop does not end well: the line of the tag has none open of the bundle, or a section failed
abbrev pub end_refusals : ℕ → Tag → BundleId → Bool → List BundleKept → List (Refusal → Type 0)
end_refusals state tag id failed rows = Where InvalidOperation (¬ IsInChange state tag id rows) ∷ Where ActivatorError (failed ≡ true) ∷ []
