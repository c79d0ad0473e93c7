-- The order of the rows.
use Rattle.osgi_registry.proofs.Entries.{in_order}
use Rattle.osgi_registry.proofs.registry.Registry.services.Goals as goal

pub returns-clause-in_order : goal.returns-clause-in_order
returns-clause-in_order c = rw (← c.self.view_is) (in_order _ _ c.self.invariant.rows)
