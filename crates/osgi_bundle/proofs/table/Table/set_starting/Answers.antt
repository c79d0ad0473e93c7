-- The rows where the start began stand for the history with its begin.
use Rattle.std.proofs.Common.{refl}
use Rattle.osgi_bundle.specs.laws.Changes.{stands_begun}
use Rattle.osgi_ops.specs.Bundles.{starting}
use Rattle.osgi_ops.specs.declared.state.TheConstants.{STARTING}
use Rattle.osgi_bundle.proofs.Begins.{startable_apart}
use Rattle.osgi_bundle.proofs.table.Table.set_starting.Goals as goal

pub returns-clause-stands : goal.returns-clause-stands
returns-clause-stands c =
    stands_begun starting STARTING c.args.tag c.args.bundle c.args.self.now c.set_begun.new.self refl (λ t. refl) (startable_apart c.args.bundle c.args.self.now c.requires.possible) c.set_begun.ensures.rows c.set_begun.ensures.issued
