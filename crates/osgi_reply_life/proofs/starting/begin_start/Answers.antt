-- The table of bundles refuses, or there is nothing to do, or the caller has too many brackets open; else the start begins.
use Rattle.std.proofs.Common.{sym, ◌∙◌}
use Rattle.std.proofs.lemmas.Bool.Decides.{not_from_Decides}
use Rattle.osgi_reply_life.proofs.Starts.{decided_begin_active, decided_begin_deep, decided_begin_refused, decided_begun}
use Rattle.osgi_reply_life.proofs.starting.begin_start.Goals as goal

pub returns-in-Err : goal.returns-in-Err
returns-in-Err c = record { decided = decided_begin_refused c.args.tables.now c.args.tag c.args.bundle c.args.transient c.in-Err.refusal (rw c.in-Err.is at c.start.ensures.answer) }

pub returns-in_default : goal.returns-in_default
returns-in_default c = record { decided = decided_begin_active c.args.tables.now c.args.tag c.args.bundle c.args.transient (rw c.in_default.is at rw c.in-Ok.is at c.start.ensures.answer) }

pub returns-then-is_full : goal.returns-then-is_full
returns-then-is_full c = record {
  decided =
      decided_begin_deep c.args.tables.now c.args.tag c.args.bundle c.args.transient ((rw c.in-Ok.is at c.start.ensures.possible) (λ already. (let bad = sym c.in-Run.is ∙ already in cc bad)))
      (c.is_full.ensures.full.0 c.if-is_full.true);
}

pub returns : goal.returns
returns c = record {
  decided =
      decided_begun c.args.tables.now c.args.tag c.args.bundle c.args.transient c.in-Run.row (rw c.in-Run.is at rw c.in-Ok.is at c.start.ensures.answer)
      ((rw c.in-Ok.is at c.start.ensures.possible) (λ already. (let bad = sym c.in-Run.is ∙ already in cc bad)))
      (not_from_Decides c.is_full.result c.is_full.ensures.full c.if-is_full.false);
}
