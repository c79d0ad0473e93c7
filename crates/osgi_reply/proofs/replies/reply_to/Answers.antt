-- The ends of a hand and of a job are replied to as what they are.
use Rattle.std.proofs.Common.{subst, sym}
use Rattle.osgi_listeners.specs.Sights.{sights_of}
use Rattle.osgi_ops.specs.declared.op.Op.{Op}
use Rattle.osgi_tables.specs.Replied.{IsReplied}
use Rattle.osgi_reply.proofs.replies.reply_to.Goals as goal

pub returns-in-EndHand-clause-replied : goal.returns-in-EndHand-clause-replied
returns-in-EndHand-clause-replied c =
    subst (λ (o : Op). IsReplied c.args.entries (record { tag = c.args.asked.now.tag; op = o }) c.args.tables.now c.end_of_hand.new.tables c.end_of_hand.result.reply (sights_of c.end_of_hand.result.told.items)) (sym c.in-EndHand.is)
    (c.end_of_hand.ensures.replied c.args.entries)

pub returns-in-EndJob-clause-replied : goal.returns-in-EndJob-clause-replied
returns-in-EndJob-clause-replied c =
    subst (λ (o : Op). IsReplied c.args.entries (record { tag = c.args.asked.now.tag; op = o }) c.args.tables.now c.end_of_job.new.tables c.end_of_job.result.reply (sights_of c.end_of_job.result.told.items)) (sym c.in-EndJob.is)
    (c.end_of_job.ensures.replied c.args.entries)
