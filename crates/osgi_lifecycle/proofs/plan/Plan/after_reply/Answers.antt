-- A step that is held back until events were handed.
use Rattle.std.proofs.Common.{sym}
use Rattle.osgi_lifecycle.specs.Draining.{drained_by}
use Rattle.osgi_lifecycle.specs.Following.{after_reply, left_of}
use Rattle.osgi_lifecycle.specs.Pendings.{pending_of}
use Rattle.osgi_lifecycle.proofs.Asking.{held-back}
use Rattle.osgi_lifecycle.proofs.plan.Plan.after_reply.Goals as goal

pub returns-clause-pending : goal.returns-clause-pending
unfolding pending_of
returns-clause-pending c =
    held-back (drained_by c.args.self.now.stirring c.args.reply) (left_of c.after_reply-head.result c.after_reply-head.new.self) (after_reply c.args.self.now.rest.at c.args.self.now.rest.kept c.args.reply) (sym c.if-not-drains.ensures.drained) c.after_reply-head.ensures.left
