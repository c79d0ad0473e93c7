-- The class space of a revision: the packages that it sees, with their sources.
use Rattle.std.specs.Prelude.{◌↔◌, ℕ, List, map}
use Rattle.std.specs.Cmp.Lexicographic.{slice_cmp}
use Rattle.std.specs.List.Sorted.{IsStrictlyIncreasing, IsStrictlySortedBy}
use Rattle.std.specs.Ordering.{nat_cmp}
use Rattle.osgi_base.specs.declared.ids.RevisionId.{RevisionId}
use Rattle.osgi_space.specs.declared.seen_packages.PackageSources.{PackageSources}
use Rattle.osgi_world.specs.Lists.{In}
use Rattle.osgi_world.specs.Sources.{Sources}
use Rattle.osgi_world.specs.declared.wiring.Wiring.{Wiring}
use Rattle.osgi_world.specs.declared.world.Known.{Known}

-- the packages that have a source for r, each once, by their bytes, and with each exactly its sources, rising
pub record IsClassSpace (K : List Known) (W : List Wiring) (r : RevisionId) (space : List PackageSources) : Type 0 where
  pub packages : (p : List ℕ) → In p (map (λ s. s.package) space) ↔ ((x : RevisionId) × Sources K W r p x)
  pub in_order : IsStrictlySortedBy (slice_cmp nat_cmp) (map (λ s. s.package) space)
  pub sources : (s : PackageSources) → In s space → (x : RevisionId) → In x s.sources ↔ Sources K W r s.package x
  pub rising : (s : PackageSources) → In s space → IsStrictlyIncreasing (map (λ (x : RevisionId). x.0) s.sources)
