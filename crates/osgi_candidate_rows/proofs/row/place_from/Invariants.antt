-- The item is not out, and what was passed is.
use Rattle.std.proofs.Common.{◌<◌, IsTrue, List, length}
use Rattle.osgi_links.specs.Held.{has, linked}
use Rattle.osgi_world.specs.declared.problem.Choice.{Choice}
use Rattle.osgi_candidate_rows.specs.computed.Numbers.{HoldsPlaces}
use Rattle.osgi_candidate_rows.proofs.Going.{IsPassed}
use Rattle.osgi_candidate_rows.proofs.row.place_from.Given as goal

abbrev pub invariant-loop : goal.invariant-loop
invariant-loop l = record {
  live : IsTrue (has (linked l.rows l.row) l.item);
  within : l.item < length l.rows.values;
  passed : (choices : List Choice) → HoldsPlaces choices l.rows → l.row < length choices → IsPassed choices l.rows l.row l.from l.item;
}
