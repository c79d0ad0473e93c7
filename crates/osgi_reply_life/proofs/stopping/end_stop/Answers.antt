-- The operation is no end of a stop of the bundle, or a section failed, or the stop ends well.
use Rattle.std.proofs.Common.{◌≡◌, true, false, sym, ◌∙◌}
use Rattle.std.proofs.lemmas.Bool.Decides.{not_from_Decides}
use Rattle.osgi_reply_life.proofs.Ends.{decided_stop_ended, decided_stop_refused}
use Rattle.osgi_reply_life.proofs.stopping.end_stop.Goals as goal
use Rattle.osgi_reply_life.proofs.stopping.end_stop.Goals.{then-not-is_end-via-else-not-is_end+then-not-is_in_change, then-not-is_end-via-then-not-is_end}

pub returns-then-not-is_end : goal.returns-then-not-is_end
returns-then-not-is_end c = record {
  decided =
      decided_stop_refused c.args.tables.now c.args.tag c.args.bundle c.args.failed
      (λ both. elim c.then-not-is_end.branch [
        | then-not-is_end-via-then-not-is_end w ↦ (let bad : true ≡ false = sym both.0 ∙ sym c.is_end.ensures.end ∙ w.if-not-is_end.true in cc bad)
        | then-not-is_end-via-else-not-is_end+then-not-is_in_change w ↦ not_from_Decides w.is_in_change.result w.is_in_change.ensures.change w.if-not-is_in_change.true both.1
      ]);
}

pub returns-then-failed : goal.returns-then-failed
returns-then-failed c = record {
  decided =
      decided_stop_ended c.args.tables.now c.args.tag c.args.bundle c.args.failed true c.if-failed.true (sym c.is_end.ensures.end ∙ c.if-not-is_end.false)
      (c.is_in_change.ensures.change.0 c.if-not-is_in_change.false);
}

pub returns : goal.returns
returns c = record {
  decided =
      decided_stop_ended c.args.tables.now c.args.tag c.args.bundle c.args.failed false c.if-failed.false (sym c.is_end.ensures.end ∙ c.if-not-is_end.false)
      (c.is_in_change.ensures.change.0 c.if-not-is_in_change.false);
}
