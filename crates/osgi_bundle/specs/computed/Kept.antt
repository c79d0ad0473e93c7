-- What is true of the table's fields between calls.
use Rattle.std.specs.Prelude.{ℕ, ◌≡◌, false, cond, List, Option, None, Some, All, IsSome, find, slice_get}
use Rattle.std.specs.BTreeMap.{BTreeMap, get}
use Rattle.std.specs.Option.{option_map, option_or}
use Rattle.std.specs.Ordering.{eq_by_cmp, is_lt, on, then_cmp}
use Rattle.std.specs.declared.cmp.Ordering.{Ordering}
use Rattle.std.proofs.Common.{lit≤}
use Rattle.osgi_base.specs.computed.Texts.{text_cmp}
use Rattle.osgi_base.specs.declared.ids.BundleId.{BundleId}
use Rattle.osgi_bundle.specs.Rows.{AreApart, AreInOrder, IsBegun, TableRows}
use Rattle.osgi_bundle.specs.declared.directory.BundleName.{BundleName}
use Rattle.osgi_bundle.specs.declared.directory.Directory.{Directory}
use Rattle.osgi_bundle.specs.declared.kept.BundleKept.{BundleKept}
use Rattle.osgi_version.specs.Comparing.{version_cmp}
use Rattle.osgi_version.specs.VersionValues.{version_numbered}
use Rattle.osgi_version.specs.declared.version.Version.{Version}

-- the row at a place, if there is one
abbrev pub row_in : List BundleKept → Option ℕ → Option BundleKept
row_in rows None = None
row_in rows (Some i) = slice_get rows i

-- the bundle of the first row that has this key
abbrev pub bundle_under : {K : Type 0} → (K → K → Ordering) → (BundleKept → K) → K → List BundleKept → Option BundleId
bundle_under cmp key_of key rows = option_map (λ (row : BundleKept). row.bundle) (find (λ row. eq_by_cmp cmp key (key_of row)) rows)

-- an index has under each key the bundle of the first row with that key, and no others
abbrev pub IsIndexOf : {K : Type 0} → (K → K → Ordering) → (BundleKept → K) → BTreeMap K BundleId → List BundleKept → Type 0
IsIndexOf {K} cmp key_of index rows = (key : K) → get cmp index key ≡ bundle_under cmp key_of key rows

abbrev pub location_of : BundleKept → List ℕ
location_of row = row.location

abbrev pub named : List ℕ → Version → BundleName
named name version = record { name = name; version = version }

abbrev pub bundle_name : BundleKept → BundleName
bundle_name row = named row.name row.version

-- by name, then by version
abbrev pub name_cmp : BundleName → BundleName → Ordering
name_cmp = then_cmp (on (λ n. n.name) text_cmp) (on (λ n. n.version) version_cmp)

-- 0.0.0
abbrev pub lowest_version : Version
lowest_version = version_numbered 0 0 0 (lit≤ tt, lit≤ tt, lit≤ tt)

-- no bundle stands under the name in any version
abbrev pub HasNoVersion : BTreeMap BundleName BundleId → List ℕ → Type 0
HasNoVersion names name = (version : Version) → get name_cmp names (named name version) ≡ None

-- the bundle stands under the name in a version, and none under a higher one
pub record IsHighest (names : BTreeMap BundleName BundleId) (name : List ℕ) (bundle : BundleId) : Type 0 where
  pub version : Version
  pub stands : get name_cmp names (named name version) ≡ Some bundle
  pub highest : (other : Version) → IsSome (get name_cmp names (named name other)) → is_lt (version_cmp version other) ≡ false

-- the directory is that of these rows
pub record IsDirectoryOf (directory : Directory) (rows : List BundleKept) : Type 0 where
  pub locations : IsIndexOf text_cmp location_of directory.locations rows
  pub names : IsIndexOf name_cmp bundle_name directory.names rows

-- the bundle is put under the key where none stands there
abbrev pub AddsFirst : {K : Type 0} → (K → K → Ordering) → BTreeMap K BundleId → BTreeMap K BundleId → K → BundleId → Type 0
AddsFirst {K} cmp old new key bundle = (k : K) → get cmp new k ≡ option_or (get cmp old k) (cond (eq_by_cmp cmp k key) (Some bundle) None)

abbrev pub HoldsSame : {K : Type 0} → (K → K → Ordering) → BTreeMap K BundleId → BTreeMap K BundleId → Type 0
HoldsSame {K} cmp old new = (k : K) → get cmp new k ≡ get cmp old k

-- the rows are in order, no two have the same name and version, of each that is starting or stopping it is kept whose line began that, and
-- the directory is theirs
pub record IsKept (table : TableRows) (directory : Directory) : Type 0 where
  pub in_order : AreInOrder table
  pub apart : AreApart table.rows
  pub begun : All IsBegun table.rows
  pub index : IsDirectoryOf directory table.rows
