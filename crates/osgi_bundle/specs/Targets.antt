-- Which live bundle a target names.
use Rattle.std.specs.Prelude.{ℕ, ◌≡◌, ◌≢◌, ◌≤◌, ◌⊎◌, true, false, List, None, All, Contains}
use Rattle.std.specs.Ordering.{is_gt}
use Rattle.osgi_base.specs.declared.ids.BundleId.{BundleId}
use Rattle.osgi_bundle.specs.Rows.{bundle_number, row_at}
use Rattle.osgi_bundle.specs.declared.kept.BundleKept.{BundleKept}
use Rattle.osgi_ops.specs.declared.target.Target.{Target}
use Rattle.osgi_ops.specs.declared.target.Target.TheVariants.{Id, Name}
use Rattle.osgi_version.specs.VersionValues.{order, parts}

-- of two bundles of one name the first is what the name stands for: it has the higher version, or the other has no higher one and no
-- lower id
abbrev pub IsFirstRow : BundleKept → BundleKept → Type 0
IsFirstRow row other =
    (is_gt (order (parts row.version) (parts other.version)) ≡ true) ⊎ ((is_gt (order (parts other.version) (parts row.version)) ≡ false) × (bundle_number row ≤ bundle_number other))

-- the live bundle that a name stands for
pub record IsNamedRow (name : List ℕ) (rows : List BundleKept) (bundle : BundleId) : Type 0 where
  pub row : BundleKept
  pub live : Contains rows row
  pub is : row.bundle ≡ bundle
  pub named : row.name ≡ name
  pub first : All (λ (other : BundleKept). other.name ≡ name → IsFirstRow row other) rows

-- a bundle by its id, if it is live, or the one that a name stands for
abbrev pub IsTargetRow : Target → List BundleKept → BundleId → Type 0
IsTargetRow (Id id) rows bundle = (bundle ≡ id) × (row_at id rows ≢ None)
IsTargetRow (Name name) rows bundle = IsNamedRow name rows bundle
