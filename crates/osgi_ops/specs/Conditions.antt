-- The conditions of refusals that several operations share, and who asks for an operation.
use Rattle.std.specs.Prelude.{ℕ, ◌≡◌, ◌≢◌, ◌+◌, ◌≤◌, ◌<◌, ◌&&◌, ◌⊎◌, ⊤, nat_le, nat_lt, not, Bool, true, false, if◌then◌else◌, List, [], ◌∷◌, Option, None, Some, length, IsSomeAnd, All, AllPairs, Contains}
use Rattle.std.specs.Option.{option_map_or}
use Rattle.std.specs.Ordering.{is_gt}
use Rattle.osgi_base.specs.Verdict.{Where}
use Rattle.osgi_base.specs.declared.ids.BundleId.{BundleId}
use Rattle.osgi_base.specs.declared.ids.ServiceId.{ServiceId}
use Rattle.osgi_ops.specs.Brackets.{brackets_of, is_own_end}
use Rattle.osgi_ops.specs.Bundles.{Bundle, bundles, is_active, is_live, is_up, last_begin, State, state, system}
use Rattle.osgi_ops.specs.Depots.{stored_revision, stored_at}
use Rattle.osgi_ops.specs.Levels.{active_level, level_of, Refresh, refresh, Walk, walk}
use Rattle.osgi_ops.specs.Moments.{Moment}
use Rattle.osgi_ops.specs.Services.{live_service_at}
use Rattle.osgi_ops.specs.declared.depot.Stored.{Stored}
use Rattle.osgi_ops.specs.declared.depot.Stored.TheVariants as stored
use Rattle.osgi_ops.specs.declared.limits.TheConstants.{MAX_BRACKETS, MAX_LEVEL}
use Rattle.osgi_ops.specs.declared.op.Op.{Op}
use Rattle.osgi_ops.specs.declared.op.Op.TheVariants as op
use Rattle.osgi_ops.specs.declared.refusal.Many.TheVariants.{Locations}
use Rattle.osgi_ops.specs.declared.refusal.Refusal.{Refusal}
use Rattle.osgi_ops.specs.declared.refusal.Refusal.TheVariants as no
use Rattle.osgi_ops.specs.declared.target.Target.{Target}
use Rattle.osgi_ops.specs.declared.target.Target.TheVariants.{Id, Name}
use Rattle.osgi_version.specs.VersionValues.{order, parts}
use Rattle.osgi_world.specs.declared.revision.Revision.{Revision}

-- the state of a bundle at the moment
abbrev pub state_of : Moment → BundleId → State
state_of now bundle = state now.world now.before bundle

-- ---- bundles

-- the bundle is not there: its id was never given, or it is uninstalled
abbrev pub no_such_bundle : Moment → BundleId → Refusal → Type 0
no_such_bundle now bundle = Where no.NoSuchBundle (is_live bundle now.before ≡ false)

abbrev pub invalid_where : Type 0 → Refusal → Type 0
invalid_where fact = Where no.InvalidOperation fact

-- the bundle is not up
abbrev pub not_up : Moment → BundleId → Refusal → Type 0
not_up now bundle = invalid_where (is_up (state_of now bundle) ≡ false)

-- the system bundle cannot be asked for this
abbrev pub is_system : BundleId → Refusal → Type 0
is_system bundle = invalid_where (bundle ≡ system)

-- the bundle is in a state of this sort, which its last begin brought about
abbrev pub state_change : (State → Bool) → Moment → BundleId → Refusal → Type 0
state_change is_such now bundle refusal = (is_such (state_of now bundle) ≡ true) × IsSomeAnd (last_begin bundle now.before) (λ by. refusal ≡ no.StateChange by)

-- the state change of the lowest of the bundles of which this holds
abbrev pub lowest_change : (State → Bool) → Moment → (BundleId → Type 0) → Refusal → Type 0
lowest_change is_such now Among refusal =
    (b : BundleId) × Among b × state_change is_such now b refusal × ((other : BundleId) → Among other → is_such (state_of now other) ≡ true → b.0 ≤ other.0)

-- a refresh is open of which this holds
abbrev pub refreshing_where : Moment → (Refresh → Type 0) → Refusal → Type 0
refreshing_where now holds refusal = IsSomeAnd (refresh now.before) (λ r. holds r × (refusal ≡ no.Refreshing r.tag))

abbrev pub AnyRefresh : Refresh → Type 0
AnyRefresh r = ⊤

-- the refresh is open, this caller began it, and its wirings are not dropped yet
abbrev pub IsOwnOpen : Moment → Refresh → Type 0
IsOwnOpen now r = (refresh now.before ≡ Some r) × (r.tag.caller ≡ now.tag.caller) × (r.dropped ≡ false)

-- the refresh is open, this caller began it, and its wirings are dropped
abbrev pub IsOwnDropped : Moment → Refresh → Type 0
IsOwnDropped now r = (refresh now.before ≡ Some r) × (r.tag.caller ≡ now.tag.caller) × (r.dropped ≡ true)

-- this caller has as many brackets open as it may
abbrev pub IsDeep : Moment → Type 0
IsDeep now = MAX_BRACKETS ≤ length (brackets_of now.tag.caller now.before)

-- the operation is not the end of the innermost bracket of its caller, or another command of the caller opened that
abbrev pub no_own_end : Moment → Op → Refusal → Type 0
no_own_end now o = invalid_where (is_own_end now.tag o now.before ≡ false)

-- ---- who asks

-- the bundle that asks for an operation, where one does: its owner, asker or user
abbrev pub asker_of : Op → Option BundleId
asker_of (op.Register owner classes object scope properties) = Some owner
asker_of (op.Modify owner service properties) = Some owner
asker_of (op.Unregister owner service) = Some owner
asker_of (op.Find asker class filter) = Some asker
asker_of (op.FindAll asker class filter) = Some asker
asker_of (op.Get user service) = Some user
asker_of (op.Unget user service) = Some user
asker_of (op.GetOwn user service) = Some user
asker_of (op.Give owner text) = Some owner
asker_of (op.UngetOwn user service object) = Some user
asker_of (op.AddListener owner name kind filter) = Some owner
asker_of (op.RemoveListener owner name) = Some owner
asker_of (op.QueueJob owner name) = Some owner
asker_of (op.Print owner text) = Some owner
asker_of (op.Fail owner text) = Some owner
asker_of _ = None

-- who asks has to be there, and up
abbrev pub asker_conditions : Moment → Option BundleId → List (Refusal → Type 0)
asker_conditions now (Some asker) = no_such_bundle now asker ∷ not_up now asker ∷ []
asker_conditions now None = []

-- ---- services

-- the service is not live
abbrev pub no_such_service : Moment → ServiceId → Refusal → Type 0
no_such_service now service = Where no.NoSuchService (live_service_at service now.before ≡ None)

-- the service is live, and its owner is another than this one
abbrev pub not_owner : Moment → BundleId → ServiceId → Refusal → Type 0
not_owner now owner service refusal = IsSomeAnd (live_service_at service now.before) (λ r. (r.owner ≢ owner) × (refusal ≡ no.NotOwner r.owner))

-- ---- locations

-- what the depot's answer for a location refuses: a folder that could not be read or is too large, one that is not there, and a
-- manifest at fault; and locations that were skipped
abbrev pub depot_refusal : Option Stored → Option Refusal
depot_refusal None = Some no.NoFolder
depot_refusal (Some stored.Skipped) = Some (no.TooMany Locations)
depot_refusal (Some (stored.Failed before after)) = Some no.ReadError
depot_refusal (Some (stored.TooLarge bytes files)) = Some no.ReadError
depot_refusal (Some stored.NoFolder) = Some no.NoFolder
depot_refusal (Some (stored.Bad fault)) = Some (no.ManifestError fault)
depot_refusal (Some (stored.Read revision manifest)) = None

-- the depot has no revision at the location
abbrev pub not_read : Moment → List ℕ → Refusal → Type 0
not_read now location refusal = depot_refusal (stored_at now.setting.depot location) ≡ Some refusal

-- another live bundle than the one that is updated, where one is, has the name and the version of the location's revision
pub record IsDuplicate (now : Moment) (updated : Option BundleId) (location : List ℕ) (refusal : Refusal) : Type 0 where
  pub revision : Revision
  pub is : stored_revision now.setting.depot location ≡ Some revision
  pub other : Bundle
  pub live : Contains (bundles now.setting.depot now.before) other
  pub apart : updated ≢ Some other.bundle
  pub name : other.revision.name ≡ revision.name
  pub version : other.revision.version ≡ revision.version
  pub says : refusal ≡ no.DuplicateBundle other.bundle

-- ---- targets

-- of two bundles of one name the first is preferred to the other, which has no higher version, nor the same and a lower id
abbrev pub IsPreferredTo : Bundle → Bundle → Type 0
IsPreferredTo b other =
    (is_gt (order (parts b.revision.version) (parts other.revision.version)) ≡ true)
    ⊎ ((is_gt (order (parts other.revision.version) (parts b.revision.version)) ≡ false) × (b.bundle.0 ≤ other.bundle.0))

-- the live bundle that a name stands for
pub record IsNamed (now : Moment) (name : List ℕ) (bundle : BundleId) : Type 0 where
  pub row : Bundle
  pub live : Contains (bundles now.setting.depot now.before) row
  pub is : row.bundle ≡ bundle
  pub named : row.revision.name ≡ name
  pub first : All (λ (other : Bundle). other.revision.name ≡ name → IsPreferredTo row other) (bundles now.setting.depot now.before)

abbrev pub IsTarget : Moment → Target → BundleId → Type 0
IsTarget now (Id id) bundle = (bundle ≡ id) × (is_live id now.before ≡ true)
IsTarget now (Name name) bundle = IsNamed now name bundle

abbrev pub no_target : Moment → Target → Refusal → Type 0
no_target now target = Where no.NoSuchBundle (¬ ((bundle : BundleId) × IsTarget now target bundle))

abbrev pub at_target : Moment → Target → (BundleId → Refusal → Type 0) → Refusal → Type 0
at_target now target condition refusal = (bundle : BundleId) × IsTarget now target bundle × condition bundle refusal

-- ---- levels

abbrev pub lesser : ℕ → ℕ → ℕ
lesser a b = if nat_lt a b then a else b

-- no bundle is started above the active level, nor above an open walk's target
abbrev pub highest : Moment → ℕ
highest now = option_map_or (λ (w : Walk). lesser w.target (active_level now.before)) (walk now.before) (active_level now.before)

abbrev pub is_level_too_high : Moment → BundleId → Bool
is_level_too_high now bundle = nat_lt (highest now) (level_of bundle now.before)

-- it is not active, and its level is too high for it to be started now
abbrev pub is_kept : Moment → BundleId → Bool
is_kept now bundle = not (is_active (state_of now bundle)) && is_level_too_high now bundle

-- a level that a bundle which was installed, and the framework, may have
abbrev pub is_level : ℕ → Bool
is_level level = nat_le 1 level && nat_le level MAX_LEVEL

abbrev pub IsOneStep : ℕ → ℕ → ℕ → Type 0
IsOneStep from to target = ((to ≡ from + 1) × (to ≤ target)) ⊎ ((from ≡ to + 1) × (target ≤ to))

abbrev pub IsOwnWalk : Moment → Walk → Type 0
IsOwnWalk now w = (walk now.before ≡ Some w) × (w.tag.caller ≡ now.tag.caller)

-- ---- lists of bundles

-- exactly the bundles of which this holds, each after those before it
pub record AreThose (Is : BundleId → Type 0) (Before : BundleId → BundleId → Type 0) (list : List BundleId) : Type 0 where
  pub only : All Is list
  pub every : (bundle : BundleId) → Is bundle → Contains list bundle
  pub in_order : AllPairs Before list

abbrev pub Falls : BundleId → BundleId → Type 0
Falls a b = b.0 < a.0

-- the order in which a refresh stops bundles: falling level, then falling id
abbrev pub IsStopOrder : Moment → BundleId → BundleId → Type 0
IsStopOrder now a b = (level_of b now.before < level_of a now.before) ⊎ ((level_of a now.before ≡ level_of b now.before) × (b.0 < a.0))
