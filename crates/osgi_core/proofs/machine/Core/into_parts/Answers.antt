-- The history replays, so it is legal.
use Rattle.osgi_core.proofs.machine.Core.into_parts.Goals as goal

pub returns-clause-legal : goal.returns-clause-legal
returns-clause-legal c = (c.self.inside.tables.wirings.world, rw (c.from.ensures, ← c.self.view_is) c.self.invariant.0.told.replayed)

pub returns-clause-sound : goal.returns-clause-sound
returns-clause-sound c = rw (c.from.ensures, ← c.self.view_is) c.self.invariant.0.told
