-- What a Resolve finds, and does to the table of bundles. No public promise speaks of this.
use Rattle.std.specs.Prelude.{ℕ, ◌≡◌, ◌==◌, ◌&&◌, ◌||◌, ◌<◌, Bool, true, false, if◌then◌else◌, is_some, Option, List, None, Some, filter, map}
use Rattle.std.specs.List.{list_any}
use Rattle.std.specs.Option.{option_and_then, option_map_or}
use Rattle.osgi_base.specs.declared.ids.BundleId.{BundleId}
use Rattle.osgi_base.specs.declared.ids.RevisionId.{RevisionId}
use Rattle.osgi_bundle.specs.Rows.{state_at, TableRows}
use Rattle.osgi_bundle.specs.declared.kept.BundleKept.{BundleKept}
use Rattle.osgi_ops.specs.Resolved.{current_revision, is_fragment_bundle, is_in_use, is_resolved}
use Rattle.osgi_ops.specs.declared.refusal.Unmet.{Unmet}
use Rattle.osgi_ops.specs.declared.refusal.Unmet.TheVariants as unmet
use Rattle.osgi_ops.specs.declared.state.TheConstants.{INSTALLED}
use Rattle.osgi_resolver.specs.declared.answer.Cause.{Cause}
use Rattle.osgi_resolver.specs.declared.answer.Cause.TheVariants.{Clash, NoCandidate}
use Rattle.osgi_wiring.specs.States.{wiring_at}
use Rattle.osgi_world.specs.Lookups.{known_at, requirement_at, requirement_count}
use Rattle.osgi_world.specs.declared.requirement.Requirement.{Requirement}
use Rattle.osgi_world.specs.declared.wiring.Wiring.{Wiring}
use Rattle.osgi_world.specs.declared.world.Known.{Known}
use Rattle.osgi_world.specs.declared.world.World.{World}
use Rattle.osgi_reply_resolving.specs.declared.resolving.ResolveTarget.{ResolveTarget}
use Rattle.osgi_reply_resolving.specs.declared.resolving.ResolveTarget.TheVariants.{Missing, Fragment, Resolved, Root}

-- the bundle's current revision is this, no fragment, and not in force
pub record IsAsked (world : World) (b : BundleId) (root : RevisionId) : Type 0 where
  pub known : Known
  pub is : current_revision world b ≡ Some known
  pub id : known.id ≡ root
  pub whole : is_some known.revision.host ≡ false
  pub unwired : wiring_at world.wirings root ≡ None

-- what a Resolve of the bundle is about
abbrev pub IsTargetOf : World → BundleId → ResolveTarget → Type 0
IsTargetOf world b Missing = current_revision world b ≡ None
IsTargetOf world b Fragment = is_fragment_bundle world b ≡ true
IsTargetOf world b Resolved = (is_fragment_bundle world b ≡ false) × (is_resolved world b ≡ true)
IsTargetOf world b (Root root) = IsAsked world b root

-- the requirement that has no candidate stands in its owner's own list
abbrev pub IsThere : List Known → Cause → Type 0
IsThere K (NoCandidate q) = q.index < requirement_count K q.owner
IsThere K Clash = Unit {0}

-- the cause as a refusal says it
abbrev pub IsSaid : List Known → Cause → Unmet → Type 0
IsSaid K (NoCandidate q) said = (n : Requirement) × (requirement_at K q ≡ Some n) × (said ≡ unmet.NoCandidate n.namespace n.name)
IsSaid K Clash said = said ≡ unmet.Clash

-- the bundle of the row is installed, and resolved by wirings that are added
abbrev pub is_newly : World → List Wiring → BundleKept → Bool
is_newly world added row = (row.state == INSTALLED) && option_map_or (λ (k : Known). is_in_use added k.id) (current_revision world row.bundle) false

abbrev pub listed : World → List Wiring → List BundleKept → List BundleId
listed world added rows = map (λ (row : BundleKept). row.bundle) (filter (is_newly world added) rows)

-- ---- what is found of the added wirings alone

-- what is known of a revision is what its bundle has as its current one
abbrev pub is_own : World → Known → Bool
is_own world k = option_map_or (λ (c : Known). c.id.0 == k.id.0) (current_revision world k.bundle) false

-- the table has the bundle as installed
abbrev pub is_installed : TableRows → BundleId → Bool
is_installed table b = option_map_or (λ state. state == INSTALLED) (state_at b table) false

-- the bundle that is installed and has the revision as its current one
abbrev pub bundle_by : World → TableRows → RevisionId → Option BundleId
bundle_by world table r = option_and_then (λ (k : Known). if is_own world k && is_installed table k.bundle then Some k.bundle else None) (known_at world.known r)

-- the bundle of this number is that of the revision
abbrev pub is_by : World → TableRows → ℕ → RevisionId → Bool
is_by world table n r = option_map_or (λ (b : BundleId). b.0 == n) (bundle_by world table r) false

-- it is that of the wiring's revision, or of one of its fragments
abbrev pub is_by_wiring : World → TableRows → ℕ → Wiring → Bool
is_by_wiring world table n g = is_by world table n g.revision || list_any (is_by world table n) g.fragments

abbrev pub bundle_of : ℕ → BundleId
bundle_of n = record { 0 = n }

-- ---- what is current

-- the revision is what the bundle has as its current one
pub record IsCurrent (world : World) (b : BundleId) (r : RevisionId) : Type 0 where
  pub known : Known
  pub is : current_revision world b ≡ Some known
  pub id : known.id ≡ r
