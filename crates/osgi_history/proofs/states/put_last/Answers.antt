-- One more entry.
use Rattle.std.proofs.Common.{◌∙◌}
use Rattle.osgi_history.proofs.Lives.{number-next}
use Rattle.osgi_history.proofs.states.put_last.Goals as goal

pub loop-entry-preserved : goal.loop-entry-preserved
loop-entry-preserved c =
    c.unwrap_or-state.ensures
    ∙ number-next c.args.bundle c.args.entries.now c.loop-entry.entry-index c.entry-item.result c.put_into.result c.loop-entry.state c.loop-entry-test.true c.entry-item.is c.put_into.ensures.put c.loop-entry.invariant
