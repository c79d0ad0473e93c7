-- What a resolve is about decides what it answers.
use Rattle.std.proofs.Common.{List, [], subst, sym, ◌∙◌, refl}
use Rattle.osgi_base.specs.declared.ids.BundleId.{BundleId}
use Rattle.osgi_tables.proofs.Replying.{decided_all}
use Rattle.osgi_reply_resolving.proofs.Searching.{replied_fragment, replied_missing, replied_resolved}
use Rattle.osgi_ops.specs.declared.op.Op.TheVariants as op
use Rattle.osgi_ops.specs.declared.refusal.Refusal.TheVariants.{InvalidOperation, NoSuchBundle}
use Rattle.osgi_ops.specs.declared.reply.Reply.TheVariants as answer
use Rattle.osgi_tables.specs.Changes.{IsReplyAndChangeToAll}
use Rattle.osgi_tables.specs.declared.change.Change.TheVariants as change
use Rattle.osgi_reply_resolving.proofs.resolving.resolve.Goals as goal

pub returns-in-Missing-clause-decided : goal.returns-in-Missing-clause-decided
returns-in-Missing-clause-decided c =
    decided_all (op.Resolve c.args.bundle) c.args.tables.now (answer.Refused NoSuchBundle) refl (replied_missing c.args.tables.now c.args.bundle (rw c.wirings.ensures.wirings at c.in-Missing.ensures.target))

pub returns-in-Fragment-clause-decided : goal.returns-in-Fragment-clause-decided
returns-in-Fragment-clause-decided c =
    decided_all (op.Resolve c.args.bundle) c.args.tables.now (answer.Refused InvalidOperation) refl (replied_fragment c.args.tables.now c.args.bundle (rw c.wirings.ensures.wirings at c.in-Fragment.ensures.target))

pub returns-in-Resolved-clause-decided : goal.returns-in-Resolved-clause-decided
returns-in-Resolved-clause-decided c =
    subst (λ (l : List BundleId). IsReplyAndChangeToAll (op.Resolve c.args.bundle) c.args.tables.now (answer.Resolved l) change.Nothing) (sym (c.from-added.ensures ∙ c.new.ensures.items))
    (decided_all (op.Resolve c.args.bundle) c.args.tables.now (answer.Resolved []) refl
    (replied_resolved c.args.tables.now c.args.bundle (rw c.wirings.ensures.wirings at c.in-Resolved.ensures.target.0) (rw c.wirings.ensures.wirings at c.in-Resolved.ensures.target.1)))
