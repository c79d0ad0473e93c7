-- The bundle is in the state that the line of the tag began, and the rows where the start ended stand for the history with its end.
use Rattle.osgi_bundle.proofs.table.Table.end_start.Goals as goal

pub returns-then-failed-clause-stands : goal.returns-then-failed-clause-stands
returns-then-failed-clause-stands c = λ change. c.set_started.ensures.stands c.args.tag

pub returns-clause-stands : goal.returns-clause-stands
returns-clause-stands c = λ change. c.set_started.ensures.stands c.args.tag
