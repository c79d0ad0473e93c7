-- The test decides it.
use Rattle.osgi_resolver_path.proofs.Joining.{force-same}
use Rattle.osgi_resolver_path.proofs.growing.is_in_force.Goals as goal

pub returns : goal.returns
returns c = record { in_force = force-same c.args.offers.now.wirings c.args.revision c.is_in_force.result c.is_in_force.ensures.in_force }
