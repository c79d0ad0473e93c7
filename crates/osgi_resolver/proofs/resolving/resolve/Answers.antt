-- An index of nothing follows each world.
use Rattle.osgi_resolver.proofs.resolving.resolve.Goals as goal

pub resolve_with-requires-clause-follows : goal.resolve_with-requires-clause-follows
resolve_with-requires-clause-follows c = c.new-index.ensures.follows c.args.world.now
