-- What belongs to the bundle is all that concerns it.
use Rattle.osgi_registry.proofs.Covered.{among_all}
use Rattle.osgi_registry.proofs.Entries.{in_order}
use Rattle.osgi_registry_index.specs.Belonging.{bundles_in}
use Rattle.osgi_registry.proofs.registry.Registry.concerned.Goals as goal

pub returns-clause-all : goal.returns-clause-all
returns-clause-all c = rw (← c.self.view_is) (among_all c.services.result (bundles_in c.self.inside.bundles) c.args.bundle _ c.services.ensures.services c.self.invariant.covered)

pub returns-clause-in_order : goal.returns-clause-in_order
returns-clause-in_order c = rw (← c.self.view_is) (in_order _ _ c.self.invariant.rows)
