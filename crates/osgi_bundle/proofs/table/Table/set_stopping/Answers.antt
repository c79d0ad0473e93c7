-- The rows where the stop began stand for the history with its begin.
use Rattle.std.proofs.Common.{refl}
use Rattle.osgi_bundle.specs.laws.Changes.{stands_begun}
use Rattle.osgi_ops.specs.Bundles.{stopping}
use Rattle.osgi_ops.specs.declared.state.TheConstants.{STOPPING}
use Rattle.osgi_bundle.proofs.Begins.{stoppable_apart}
use Rattle.osgi_bundle.proofs.table.Table.set_stopping.Goals as goal

pub returns-clause-stands : goal.returns-clause-stands
returns-clause-stands c =
    stands_begun stopping STOPPING c.args.tag c.args.bundle c.args.self.now c.set_begun.new.self refl (λ t. refl) (stoppable_apart c.args.bundle c.args.self.now c.requires.possible) c.set_begun.ensures.rows c.set_begun.ensures.issued
