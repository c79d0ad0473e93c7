-- The rows where the stop ended stand for the history with its end.
use Rattle.std.proofs.Common.{refl}
use Rattle.osgi_bundle.specs.laws.Changes.{stands_ended}
use Rattle.osgi_ops.specs.Bundles.{idle}
use Rattle.osgi_ops.specs.declared.state.TheConstants.{RESOLVED, STOPPING}
use Rattle.osgi_bundle.proofs.Begins.{state_apart}
use Rattle.osgi_bundle.proofs.table.Table.set_stopped.Goals as goal

pub returns-clause-stands : goal.returns-clause-stands
returns-clause-stands c = λ tag.
    stands_ended idle RESOLVED tag c.args.bundle c.args.self.now c.set_state.new.self refl (λ t. refl) (state_apart c.args.bundle c.args.self.now STOPPING (λ same. cc same) c.requires.stopping) c.set_state.ensures.rows c.set_state.ensures.issued
