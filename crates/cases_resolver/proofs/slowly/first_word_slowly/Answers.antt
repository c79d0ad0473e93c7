-- An index of nothing follows each world.
use Rattle.cases_resolver.proofs.slowly.first_word_slowly.Goals as goal

pub follow-requires-clause-follows : goal.follow-requires-clause-follows
follow-requires-clause-follows c = c.new-index.ensures.follows c.args.world.now.known c.args.world.now.wirings
