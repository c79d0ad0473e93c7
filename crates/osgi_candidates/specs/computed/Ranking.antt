-- The order in which capabilities are preferred, as the code has it: of two the greater is preferred.
use Rattle.std.specs.Prelude.{◌≡◌, ◌↔◌, ℕ, IsTrue}
use Rattle.std.specs.Ordering.{bool_cmp, nat_cmp, on, then_cmp}
use Rattle.std.specs.declared.cmp.Ordering.{Ordering}
use Rattle.std.specs.declared.cmp.Reverse.{Reverse}
use Rattle.osgi_candidates.specs.declared.ranked.Ranked.{Ranked}
use Rattle.osgi_version.specs.Comparing.{version_cmp}
use Rattle.osgi_version.specs.VersionValues.{parts}
use Rattle.osgi_world.specs.Candidates.{preference_version}
use Rattle.osgi_world.specs.Lookups.{bundle_of}
use Rattle.osgi_world.specs.Wirings.{InForce}
use Rattle.osgi_world.specs.declared.wiring.CapRef.{CapRef}
use Rattle.osgi_world.specs.declared.world.World.{World}

abbrev pub back_cmp : Reverse ℕ → Reverse ℕ → Ordering
back_cmp x y = nat_cmp y.0 x.0

abbrev pub ranked_cmp : Ranked → Ranked → Ordering
ranked_cmp =
    then_cmp (on (λ r. r.in_force) bool_cmp)
    (then_cmp (on (λ r. r.version) version_cmp)
    (then_cmp (on (λ r. r.bundle) back_cmp)
    (then_cmp (on (λ r. r.provider) back_cmp) (then_cmp (on (λ r. r.owner) back_cmp) (on (λ r. r.index) back_cmp)))))

abbrev pub capability_of : Ranked → CapRef
capability_of r = record { provider = record { 0 = r.provider.0 }; owner = record { 0 = r.owner.0 }; index = r.index.0 }

-- this is the capability with what it is preferred by
pub record IsRankOf (w : World) (c : CapRef) (r : Ranked) : Type 0 where
  pub in_force : IsTrue r.in_force ↔ InForce w.wirings c.provider
  pub version : parts r.version ≡ preference_version w.known c
  pub bundle : r.bundle.0 ≡ bundle_of w.known c.provider
  pub capability : capability_of r ≡ c
