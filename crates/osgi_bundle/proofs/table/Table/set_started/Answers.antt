-- The rows where the start ended stand for the history with its end.
use Rattle.std.proofs.Common.{ap, ◌∙◌}
use Rattle.osgi_bundle.specs.Rows.{with_state}
use Rattle.osgi_ops.specs.declared.state.TheConstants.{STARTING}
use Rattle.osgi_bundle.proofs.Begins.{started_stands, state_apart}
use Rattle.osgi_bundle.proofs.table.Table.set_started.Goals as goal

pub returns-clause-stands : goal.returns-clause-stands
returns-clause-stands c = λ tag.
    started_stands c.args.failed tag c.args.bundle c.args.self.now c.set_state.new.self (state_apart c.args.bundle c.args.self.now STARTING (λ same. cc same) c.requires.starting)
    (c.set_state.ensures.rows ∙ ap (λ state. with_state c.args.bundle state c.args.self.now.rows) c.started_state.ensures.state) c.set_state.ensures.issued
