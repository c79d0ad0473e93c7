-- The set of the revisions in force.
use Rattle.osgi_space_rules.proofs.Exact.{revision_exact, revision_total}
use Rattle.osgi_space_rules.proofs.Found.{decided}
use Rattle.osgi_world.specs.Wirings.{InForce}
use Rattle.osgi_space_rules.proofs.indexed.WiringIndex.is_in_force.Goals as goal

pub returns : goal.returns
returns c = rw (← c.self.view_is) (record { in_force = decided revision_total revision_exact c.self.inside.in_force c.args.id c.has.result (InForce c.self.inside.wirings.now c.args.id) c.has.ensures.has (c.self.invariant.0 c.args.id) })
