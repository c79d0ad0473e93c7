-- An operation that the framework does not have yet.
use Rattle.osgi_reply.proofs.Matching.{decided_not_yet}
use Rattle.osgi_reply.proofs.replies.not_yet.Goals as goal

pub returns : goal.returns
returns c = record { decided = decided_not_yet c.args.asked.now c.args.tables.now c.requires.unknown }
