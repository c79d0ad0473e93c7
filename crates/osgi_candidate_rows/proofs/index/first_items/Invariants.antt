-- The numbers so far, and those that are to come.
use Rattle.std.proofs.Common.{◌≡◌, ◌++◌, drop}
use Rattle.osgi_candidate_rows.specs.computed.Index.{numbers_from}
use Rattle.osgi_candidate_rows.proofs.index.first_items.Given as goal

abbrev pub invariant-loop-choice : goal.invariant-loop-choice
invariant-loop-choice l = l.firsts.items ++ numbers_from l.number (drop l.choice-index l.choices) ≡ numbers_from 0 l.choices
