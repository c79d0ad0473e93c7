-- A get counts one use more at most, whatever it answers.
use Rattle.cases_registry.proofs.Counts.{got_more}
use Rattle.cases_registry.proofs.uses.take_one.Goals as goal

pub returns-clause-more : goal.returns-clause-more
returns-clause-more c =
    got_more c.args.user c.args.service c.args.registry.now c.get.new.self c.get.result c.get.ensures.rows c.get.ensures.refused c.get.ensures.unchanged
