-- One use less, and none that could be taken.
use Rattle.std.proofs.Common.{sym, ◌∙◌}
use Rattle.osgi_reply_services.proofs.Deciding.{decided_ungot, decided_unused}
use Rattle.osgi_reply_services.proofs.services.unget.Goals as goal

pub returns-then-is_used : goal.returns-then-is_used
returns-then-is_used c = record { decided = decided_ungot c.args.user c.args.service c.args.registry.now (sym c.if-is_used.true ∙ c.is_used.ensures.used) }

pub returns-else-is_used : goal.returns-else-is_used
returns-else-is_used c = record { decided = decided_unused c.args.user c.args.service c.args.registry.now (sym c.if-is_used.false ∙ c.is_used.ensures.used) }
