-- A step of the machine is one of a hall's.
use Rattle.osgi_core.proofs.Applied.{applied}
use Rattle.osgi_core.proofs.in_hall.CoreMachine.apply.Goals as goal

pub returns-clause-applied : goal.returns-clause-applied
returns-clause-applied c = applied c.args.self.now c.apply.new.self c.args.tag c.args.op c.apply.result c.world.ensures.replayed c.apply.ensures.legal c.apply.ensures.setting c.apply.ensures.step c.apply.ensures.unchanged
