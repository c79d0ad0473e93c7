-- The hand is ended, or the operation is not the end of the innermost bracket of its caller.
use Rattle.std.proofs.Common.{sym, ◌∙◌}
use Rattle.osgi_reply_listening.proofs.Hands.{ended_hand, ended_none, ended_not}
use Rattle.osgi_reply_listening.proofs.handing.end_hand.Goals as goal

pub returns-then-not-is_end : goal.returns-then-not-is_end
returns-then-not-is_end c = record { replied = λ entries. ended_none c.args.tables.now c.args.tag c.args.listener entries (sym c.is_end.ensures.end ∙ c.if-not-is_end.true) }

pub returns-then-is_err : goal.returns-then-is_err
returns-then-is_err c = record {
  replied = λ entries.
      ended_not c.args.tables.now c.args.tag c.args.listener entries _ _ (sym c.is_end.ensures.end ∙ c.if-not-is_end.false) c.end_hand.result c.end_hand.ensures.refusal c.is_err.result c.is_err.ensures.value c.if-is_err.true;
}

pub returns : goal.returns
returns c = record {
  replied = λ entries.
      ended_hand c.args.tables.now c.args.tag c.args.listener entries c.pop.new.self c.end_hand.new.self (sym c.is_end.ensures.end ∙ c.if-not-is_end.false) c.pop.ensures.closed
      c.end_hand.ensures.rows c.end_hand.ensures.issued c.end_hand.result c.end_hand.ensures.turns c.is_err.result c.is_err.ensures.value c.if-is_err.false;
}
