-- The history replays, so it is legal.
use Rattle.osgi_core.proofs.machine.Core.entries.Goals as goal

pub returns-clause-legal : goal.returns-clause-legal
returns-clause-legal c = (c.self.inside.tables.wirings.world, rw (← c.self.view_is) c.self.invariant.0.told.replayed)
