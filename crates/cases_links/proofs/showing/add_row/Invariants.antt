-- What the loop of `add_row` keeps true.
use Rattle.std.specs.Prelude.{IsTrue}
use Rattle.osgi_links.specs.Held.{has, linked}
use Rattle.cases_links.proofs.showing.add_row.Given as goal

abbrev pub invariant-loop : goal.invariant-loop
invariant-loop l = IsTrue (has (linked l.rows l.row) l.item)
