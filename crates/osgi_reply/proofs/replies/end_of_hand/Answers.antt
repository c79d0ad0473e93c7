-- Nobody is told of the end of a hand.
use Rattle.std.proofs.Common.{List, subst, sym}
use Rattle.osgi_listeners.specs.Sights.{sights_of}
use Rattle.osgi_listeners.specs.declared.sight.Sight.{Sight}
use Rattle.osgi_ops.specs.declared.op.Op.TheVariants as op
use Rattle.osgi_ops.specs.declared.reply.Reply.{Reply}
use Rattle.osgi_tables.specs.Replied.{end_reply, IsReplied}
use Rattle.osgi_reply.proofs.replies.end_of_hand.Goals as goal

pub returns-clause-replied : goal.returns-clause-replied
returns-clause-replied c entries =
    subst (λ (y : Reply). IsReplied entries (record { tag = c.args.tag; op = op.EndHand c.args.listener }) c.args.tables.now c.end_hand-ended.new.tables y (sights_of c.new.result.items)) (sym c.end_reply.ensures.reply)
    (subst (λ (told : List Sight). IsReplied entries (record { tag = c.args.tag; op = op.EndHand c.args.listener }) c.args.tables.now c.end_hand-ended.new.tables (end_reply c.end_hand-ended.result) (sights_of told)) (sym c.new.ensures.items)
    (c.end_hand-ended.ensures.replied entries))
