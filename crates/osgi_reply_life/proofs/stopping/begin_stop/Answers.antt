-- The target stands for no bundle, the table of bundles refuses, or there is nothing to do, or the caller has too many brackets open; else
-- the stop begins.
use Rattle.std.proofs.Common.{sym, ◌∙◌}
use Rattle.std.proofs.lemmas.Bool.Decides.{not_from_Decides}
use Rattle.osgi_reply_life.proofs.Stops.{decided_stop_begun, decided_stop_deep, decided_stop_idle, decided_stop_missing, decided_stop_refused}
use Rattle.osgi_reply_life.proofs.stopping.begin_stop.Goals as goal

pub returns-in_default : goal.returns-in_default
returns-in_default c = record { decided = decided_stop_missing c.args.tables.now c.args.tag c.args.target.now c.args.transient (rw c.in_default.is at c.in_ok-bundle.ensures.target) }

pub returns-in-Err : goal.returns-in-Err
returns-in-Err c = record {
  decided = decided_stop_refused c.args.tables.now c.args.tag c.args.target.now c.args.transient c.in-Some.bundle (rw c.in-Some.is at c.in_ok-bundle.ensures.target) c.in-Err.refusal (rw c.in-Err.is at c.stop.ensures.answer);
}

pub returns-in_default-begun : goal.returns-in_default-begun
returns-in_default-begun c = record {
  decided =
      decided_stop_idle c.args.tables.now c.args.tag c.args.target.now c.args.transient c.in-Some.bundle (rw c.in-Some.is at c.in_ok-bundle.ensures.target) (rw c.in_default-begun.is at rw c.in-Ok.is at c.stop.ensures.answer)
      (rw c.in-Ok.is at c.stop.ensures.settled);
}

pub returns-then-is_full : goal.returns-then-is_full
returns-then-is_full c = record {
  decided =
      decided_stop_deep c.args.tables.now c.args.tag c.args.target.now c.args.transient c.in-Some.bundle (rw c.in-Some.is at c.in_ok-bundle.ensures.target)
      ((rw c.in-Ok.is at c.stop.ensures.possible) (λ already. (let bad = sym c.in-Run.is ∙ already in cc bad))) (c.is_full.ensures.full.0 c.if-is_full.true);
}

pub returns : goal.returns
returns c = record {
  decided =
      decided_stop_begun c.args.tables.now c.args.tag c.args.target.now c.args.transient c.in-Some.bundle (rw c.in-Some.is at c.in_ok-bundle.ensures.target) c.in-Run.row (rw c.in-Run.is at rw c.in-Ok.is at c.stop.ensures.answer)
      ((rw c.in-Ok.is at c.stop.ensures.possible) (λ already. (let bad = sym c.in-Run.is ∙ already in cc bad)))
      (not_from_Decides c.is_full.result c.is_full.ensures.full c.if-is_full.false);
}
