-- The history replays to the world, sound at every step.
use Rattle.osgi_core.proofs.machine.Core.world.Goals as goal

pub returns-clause-replayed : goal.returns-clause-replayed
returns-clause-replayed c = rw (← c.self.view_is) c.self.invariant.0.told.replayed

pub returns-clause-sound : goal.returns-clause-sound
returns-clause-sound c = rw (← c.self.view_is) c.self.invariant.0.told
