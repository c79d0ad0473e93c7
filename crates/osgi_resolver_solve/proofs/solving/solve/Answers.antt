-- The index follows the problem's world.
use Rattle.osgi_resolver_solve.proofs.solving.solve.Goals as goal

pub follow-requires : goal.follow-requires
follow-requires c = record { follows = c.new-index.ensures.follows c.args.problem.now.world.known c.args.problem.now.world.wirings; is_world = c.requires.problem.world_is; consistent = c.requires.problem.consistent }
