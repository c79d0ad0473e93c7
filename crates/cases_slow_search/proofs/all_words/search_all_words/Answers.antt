-- From the empty word, and after all words.
use Rattle.cases_slow_search.proofs.Moves.{none-after, start}
use Rattle.cases_slow_search.proofs.all_words.search_all_words.Goals as goal

pub look_below-requires-clause-passed : goal.look_below-requires-clause-passed
look_below-requires-clause-passed g c = start _ _ c.requires.problem c.requires.empty

pub returns-in-Passed-clause-outcome : goal.returns-in-Passed-clause-outcome
returns-in-Passed-clause-outcome g c = none-after _ _ _ c.in-Passed.visited c.args.budget c.in_ok-look_below.field-0 c.requires.problem c.requires.empty c.in_ok-look_below.ensures.seen c.in-Passed.is
