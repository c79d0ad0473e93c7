-- So many items are back, and the others are noted.
use Rattle.std.proofs.Common.{◌≡◌, drop}
use Rattle.osgi_candidate_rows.specs.computed.Gone.{Tells}
use Rattle.osgi_candidate_rows.proofs.taking.put_back_last.Given as goal

abbrev pub invariant-loop : goal.invariant-loop
invariant-loop l = record { back : l.rows ≡ record l.fn.rows { removed = drop l.counter l.fn.rows.removed }; gone : Tells l.gone l.rows.removed }
