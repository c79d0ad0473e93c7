-- Fragments that match a host, by their bundles.
use Rattle.std.specs.Prelude.{◌≡◌, ◌↔◌, ◌≤◌, false, IsTrue, List}
use Rattle.std.specs.Option.{option_map_or}
use Rattle.std.specs.Ordering.{nat_cmp, on, then_cmp}
use Rattle.std.specs.declared.cmp.Ordering.{Ordering}
use Rattle.osgi_base.specs.declared.ids.BundleId.{BundleId}
use Rattle.osgi_base.specs.declared.ids.RevisionId.{RevisionId}
use Rattle.osgi_candidates.specs.declared.fragments.Bundled.{Bundled}
use Rattle.osgi_world.specs.Lists.{In, Two}
use Rattle.osgi_world.specs.Lookups.{bundle_of, is_current, is_host_of, revision_at}
use Rattle.osgi_world.specs.Satisfaction.{matches_host}
use Rattle.osgi_world.specs.declared.revision.Revision.{Revision}
use Rattle.osgi_world.specs.declared.world.Known.{Known}
use Rattle.osgi_world.specs.declared.world.World.{World}

abbrev pub bundled_cmp : Bundled → Bundled → Ordering
bundled_cmp = then_cmp (on (λ b. b.bundle) (on (λ (b : BundleId). b.0) nat_cmp)) (on (λ b. b.fragment) (on (λ (r : RevisionId). r.0) nat_cmp))

abbrev pub fragment_of : Bundled → RevisionId
fragment_of b = b.fragment

-- a current fragment that matches the host
abbrev pub IsMatch : List Known → RevisionId → RevisionId → Type 0
IsMatch K h f = IsTrue (is_current K f) × IsTrue (is_host_of K f h)

-- the same, of a host's revision
abbrev pub IsMatchOf : List Known → Revision → RevisionId → Type 0
IsMatchOf K host f = IsTrue (is_current K f) × IsTrue (option_map_or (λ fragment. matches_host fragment host) (revision_at K f) false)

-- the fragments among these that match the host, each with its bundle
pub record AreBundled (K : List Known) (host : Revision) (among : List RevisionId) (bundled : List Bundled) : Type 0 where
  pub good : (b : Bundled) → In b bundled → IsMatchOf K host b.fragment × (b.bundle.0 ≡ bundle_of K b.fragment)
  pub all : (f : RevisionId) → In f among → IsMatchOf K host f → (b : Bundled) × In b bundled × (b.fragment ≡ f)

-- the fragments of the host, by bundle id
pub record AreAttachable (w : World) (h : RevisionId) (fragments : List RevisionId) : Type 0 where
  pub are : (f : RevisionId) → In f fragments ↔ IsMatch w.known h f
  pub ordered : ¬ Two (λ (e f : RevisionId). bundle_of w.known f ≤ bundle_of w.known e) fragments
