-- Who asks may not.
use Rattle.std.proofs.Common.{sym}
use Rattle.osgi_reply.proofs.Matching.{decided_unasked}
use Rattle.osgi_reply.proofs.replies.decide.Goals as goal

pub returns-in-Some-clause-decided : goal.returns-in-Some-clause-decided
returns-in-Some-clause-decided c =
    decided_unasked c.args.asked.now c.args.tables.now c.in-Some.refusal (sym c.in-Some.ensures.refusal)
