-- One more entry.
use Rattle.std.proofs.Common.{◌∙◌}
use Rattle.std.specs.Prelude.{false}
use Rattle.osgi_history.proofs.Lives.{said-next}
use Rattle.osgi_legal.specs.States.{resolves_by}
use Rattle.osgi_history.proofs.states.is_resolved.Goals as goal

pub loop-entry-preserved : goal.loop-entry-preserved
loop-entry-preserved c =
    c.unwrap_or-resolved.ensures
    ∙ said-next (λ e. resolves_by c.args.bundle e.op e.reply) false c.loop-entry.resolved c.args.entries.now c.loop-entry.entry-index c.entry-item.result c.resolves_by.result c.loop-entry-test.true c.entry-item.is c.resolves_by.ensures.resolves c.loop-entry.invariant
