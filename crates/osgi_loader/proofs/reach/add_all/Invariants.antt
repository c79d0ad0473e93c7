-- The set with the bundles that are left comes to all.
use Rattle.std.proofs.Common.{◌≡◌, drop}
use Rattle.std.specs.Prelude.{nat_eq}
use Rattle.indexmap.specs.IndexSet.{insert_all}
use Rattle.osgi_loader.proofs.reach.add_all.Given as goal

abbrev pub invariant-loop-bundle : goal.invariant-loop-bundle
invariant-loop-bundle l = insert_all nat_eq l.found.keys (drop l.bundle-index l.bundles) ≡ insert_all nat_eq l.initial.found.keys l.bundles
