-- A service under the next id, as it is registered.
use Rattle.std.proofs.Common.{refl}
use Rattle.osgi_registry.proofs.Entries.{in_order}
use Rattle.osgi_registry.proofs.registry.Registry.make.Goals as goal

pub returns-clause-made : goal.returns-clause-made
returns-clause-made c = rw (c.in_ok-properties.ensures.all, c.items-2.ensures.items, ← c.self.view_is) refl

pub returns-then-branch-clause-in_order : goal.returns-then-branch-clause-in_order
returns-then-branch-clause-in_order c = rw (← c.self.view_is) (in_order _ _ c.self.invariant.rows)

pub returns-then-len-ge-MAX_SERVICES-clause-in_order : goal.returns-then-len-ge-MAX_SERVICES-clause-in_order
returns-then-len-ge-MAX_SERVICES-clause-in_order c = rw (← c.self.view_is) (in_order _ _ c.self.invariant.rows)

pub returns-clause-in_order : goal.returns-clause-in_order
returns-clause-in_order c = rw (← c.self.view_is) (in_order _ _ c.self.invariant.rows)
