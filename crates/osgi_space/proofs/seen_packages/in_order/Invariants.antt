-- What is listed, and then what is left in the map, is all that the map has.
use Rattle.std.proofs.Common.{◌≡◌, ◌++◌, All, map}
use Rattle.std.specs.List.Sorted.{IsStrictlyIncreasing}
use Rattle.osgi_base.specs.declared.ids.RevisionId.{RevisionId}
use Rattle.osgi_space.specs.computed.ByName.{as_entry}
use Rattle.osgi_space.specs.declared.seen_packages.PackageSources.{PackageSources}
use Rattle.osgi_space.proofs.seen_packages.in_order.Given as goal

abbrev pub invariant-loop-package : goal.invariant-loop-package
invariant-loop-package l =
    (l.list ++ map as_entry l.package-iterator ≡ map as_entry l.space.entries) × All (λ (s : PackageSources). IsStrictlyIncreasing (map (λ (r : RevisionId). r.0) s.sources)) l.list
