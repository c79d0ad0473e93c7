-- What was added so far, and then what the bundles that are left come to, is all.
use Rattle.std.proofs.Common.{◌≡◌, ◌++◌, drop}
use Rattle.osgi_tables.specs.Changes.{bundles_shown}
use Rattle.osgi_tables.proofs.happenings.add_bundles.Given as goal

abbrev pub invariant-loop-bundle : goal.invariant-loop-bundle
invariant-loop-bundle l = l.happened ++ bundles_shown l.code (drop l.bundle-index l.ids) l.bundles.rows ≡ l.initial.happened ++ bundles_shown l.code l.ids l.bundles.rows
