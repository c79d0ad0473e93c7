-- What was taken out so far is the provider's.
use Rattle.osgi_candidate_rows.specs.computed.Gone.{Tells}
use Rattle.osgi_candidate_rows.specs.computed.Numbers.{Removes}
use Rattle.osgi_candidate_rows.proofs.taking.take_out_of.Given as goal

abbrev pub invariant-loop-spot : goal.invariant-loop-spot
invariant-loop-spot l = record { removes : Removes l.choices l.provider l.before l.fn.rows l.count l.rows; gone : Tells l.gone l.rows.removed }
