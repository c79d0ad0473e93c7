-- One bundle more is set.
use Rattle.std.proofs.Common.{subst, sym, ◌∙◌}
use Rattle.std.specs.Prelude.{All, List}
use Rattle.osgi_bundle.specs.Rows.{IsSettable}
use Rattle.osgi_bundle.specs.declared.kept.BundleKept.{BundleKept}
use Rattle.osgi_tables.proofs.Setting.{all_settable, one_set}
use Rattle.osgi_tables.proofs.change.set_resolved.Goals as goal

pub loop-bundle-preserved : goal.loop-bundle-preserved
loop-bundle-preserved c = record {
  set = one_set c.args.list.now c.loop-bundle.bundle-index _ c.loop-bundle.bundles.rows c.set_resolved.new.self.rows c.loop-bundle-test.true c.set_resolved.ensures.rows ∙ c.loop-bundle.invariant.set;
  settable =
      subst (λ (rows : List BundleKept). All (λ b. IsSettable b rows) c.args.list.now) (sym c.set_resolved.ensures.rows)
      (all_settable _ c.args.list.now c.loop-bundle.bundles.rows c.loop-bundle.invariant.settable);
  issued = c.set_resolved.ensures.issued ∙ c.loop-bundle.invariant.issued;
}
