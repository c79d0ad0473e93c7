-- Nothing can be handed; or there are too many brackets, or enough was handed; else the earliest event is handed.
use Rattle.std.proofs.Common.{ap, arith, sym, subst, ◌∙◌}
use Rattle.std.proofs.lemmas.Bool.Decides.{not_from_Decides}
use Rattle.std.specs.Option.{option_copied}
use Rattle.osgi_ops.specs.declared.reply.Reply.{Reply}
use Rattle.osgi_reply_listening.proofs.Hands.{by_tag, decided_deep, decided_handed, decided_nothing, decided_spent, no_row}
use Rattle.osgi_tables.specs.Changes.{IsReplyAndChange}
use Rattle.osgi_tables.specs.declared.change.Change.TheVariants as change
use Rattle.osgi_reply_listening.proofs.handing.hand.Goals as goal

pub returns-in_default : goal.returns-in_default
returns-in_default c = record { decided = decided_nothing c.args.tables.now c.args.tag c.in_ok-busy.busy c.in_ok-busy.ensures.busy c.in_default.ensures.next }

pub returns-then-is_full : goal.returns-then-is_full
returns-then-is_full c = record {
  decided = decided_deep c.args.tables.now c.args.tag c.in-Some.listener c.in-Some.event c.next.ensures.in_order c.in-Some.ensures.next (c.is_full.ensures.full.0 c.if-is_full.true);
}

pub returns-then-tables-eq0 : goal.returns-then-tables-eq0
returns-then-tables-eq0 c = record {
  decided =
      decided_spent c.args.tables.now c.args.tag c.in-Some.listener c.in-Some.event c.next.ensures.in_order c.in-Some.ensures.next (not_from_Decides c.is_full.result c.is_full.ensures.full c.if-is_full.false) c.if-tables-eq0.true;
}

pub unreachable-requires : goal.unreachable-requires
unreachable-requires c = no_row c.args.tables.now.listeners c.in-Some.listener c.in-Some.event c.next.ensures.in_order c.in-Some.ensures.next (sym c.row.ensures.row ∙ ap option_copied c.in_default-row.is)

pub returns : goal.returns
returns c =
    let said = sym c.row.ensures.row ∙ ap option_copied c.in-Some-row.is in
    record {
      decided = subst (λ (y : Reply). IsReplyAndChange (by_tag c.args.tag) c.args.tables.now y (change.Hand c.args.tag c.in-Some.listener)) (sym c.in_ok-reply.ensures.handed)
          (decided_handed c.args.tables.now c.args.tag c.in-Some.listener c.in-Some.event c.next.ensures.in_order c.in-Some.ensures.next c.in-Some-row.row.now said
          (not_from_Decides c.is_full.result c.is_full.ensures.full c.if-is_full.false) (let some = c.if-tables-eq0.false in omega (arith, some)));
    }
