-- What the loop of `add_answers` keeps true.
use Rattle.std.proofs.Common.{◌≤◌, length}
use Rattle.cases_links.proofs.steps.add_answers.Given as goal

abbrev pub invariant-loop-step : goal.invariant-loop-step
invariant-loop-step l = record {
  rows : l.count ≤ length l.rows.rows;
  depth : l.depth ≤ length l.rows.removed;
}
