-- What covers a consistent world follows it.
use Rattle.osgi_candidates.proofs.Following.{follows_consistent}
use Rattle.osgi_candidates.proofs.offer_index.OfferIndex.follow.Goals as goal

pub returns-in-Ok-clause-follows : goal.returns-in-Ok-clause-follows
returns-in-Ok-clause-follows c = follows_consistent c.add_new.new.self c.args.world.now.known c.args.world.now.wirings c.requires.consistent c.in-Ok.ensures.covers
