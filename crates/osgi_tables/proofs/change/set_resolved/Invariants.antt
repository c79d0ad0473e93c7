-- The bundles that are left are still to be set, and can be.
use Rattle.std.proofs.Common.{◌≡◌, drop}
use Rattle.std.specs.Prelude.{All}
use Rattle.osgi_bundle.specs.Rows.{IsSettable}
use Rattle.osgi_tables.specs.Changes.{with_resolved}
use Rattle.osgi_tables.proofs.change.set_resolved.Given as goal

abbrev pub invariant-loop-bundle : goal.invariant-loop-bundle
invariant-loop-bundle l = record {
  set : with_resolved (drop l.bundle-index l.list) l.bundles.rows ≡ with_resolved l.list l.initial.bundles.rows;
  settable : All (λ b. IsSettable b l.bundles.rows) l.list;
  issued : l.bundles.issued ≡ l.initial.bundles.issued;
}
