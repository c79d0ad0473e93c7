-- What was decided, once the change is made.
use Rattle.std.proofs.Common.{subst, sym}
use Rattle.std.specs.Prelude.{All}
use Rattle.osgi_listeners.specs.Sights.{IsOfEarlier, sights_of}
use Rattle.osgi_tables.proofs.Replying.{on_err, still_same}
use Rattle.osgi_tables.specs.Replied.{IsReplied, StandsStill}
use Rattle.osgi_tables.specs.Changes.{CanBeMade, IsReplyAndChange}
use Rattle.osgi_tables.specs.declared.tables.Tables.{Tables}
use Rattle.osgi_reply.proofs.replies.change_by.Goals as goal

pub returns-in_err-reply-clause-unchanged : goal.returns-in_err-reply-clause-unchanged
returns-in_err-reply-clause-unchanged c = on_err c.from_residual.result (still_same c.args.tables.now c.decide.new.tables c.decide.ensures.unchanged)

pub returns-in_err-kept-clause-unchanged : goal.returns-in_err-kept-clause-unchanged
returns-in_err-kept-clause-unchanged c = on_err c.from_residual-in_err-kept.result (still_same c.args.tables.now c.decide.new.tables c.decide.ensures.unchanged)

pub make-requires : goal.make-requires
make-requires c = record {
  possible = subst (CanBeMade c.in_ok-reply.change) (sym c.decide.ensures.unchanged) c.in_ok-reply.ensures.decided.possible;
  countable = c.requires.countable;
  earlier = subst (λ (t : Tables). All (IsOfEarlier c.args.entries) t.listeners.rows) (sym c.decide.ensures.unchanged) c.requires.earlier;
}

pub returns-in_err-told-clause-unchanged : goal.returns-in_err-told-clause-unchanged
returns-in_err-told-clause-unchanged c =
    on_err c.from_residual-in_err-told.result (subst (λ (t : Tables). StandsStill t c.make.new.tables) c.decide.ensures.unchanged c.in_err-told.ensures.unchanged)

pub returns-clause-replied : goal.returns-clause-replied
returns-clause-replied c =
    subst (λ (t : Tables). IsReplied c.args.entries c.args.asked.now t c.make.new.tables c.in_ok-reply.reply (sights_of c.in_ok-told.told.items)) c.decide.ensures.unchanged
    (c.in_ok-told.ensures.replied c.args.asked.now c.in_ok-reply.reply
    (subst (λ (t : Tables). IsReplyAndChange c.args.asked.now t c.in_ok-reply.reply c.in_ok-reply.change) (sym c.decide.ensures.unchanged) c.in_ok-reply.ensures.decided))
