-- What the loop of `linked_item` keeps true.
use Rattle.std.proofs.Common.{◌<◌, length}
use Rattle.std.specs.Prelude.{IsTrue}
use Rattle.osgi_links.specs.Held.{has, linked}
use Rattle.cases_links.proofs.steps.linked_item.Given as goal

abbrev pub invariant-loop : goal.invariant-loop
invariant-loop l = IsTrue (has (linked l.rows l.row) l.at) × (l.at < length l.rows.values)
