-- One more wiring.
use Rattle.std.proofs.Common.{rules, ◌≡◌}
use Rattle.osgi_space_rules.proofs.Grow.{grow_done, grow_step, pushed}
use Rattle.osgi_space_rules.proofs.Sets.{in_force_is}
use Rattle.osgi_world.specs.declared.wiring.Wiring.{Wiring}
use Rattle.osgi_space_rules.proofs.indexed.revisions_in_force.Goals as goal

pub loop-wiring-preserved : goal.loop-wiring-preserved
loop-wiring-preserved c =
    grow_step (λ (g : Wiring) key. key ≡ g.revision) _ _ _ c.args.wirings.now c.loop-wiring.wiring-index c.wiring-item.result c.loop-wiring-test.true c.wiring-item.is c.loop-wiring.invariant
    (pushed c.loop-wiring.in_force.items c.push.new.self.items c.wiring-item.result.revision (search rules))

pub returns : goal.returns
returns c = record { in_force = in_force_is _ c.args.wirings.now (grow_done _ _ _ c.args.wirings.now c.loop-wiring.wiring-index c.loop-wiring-test.false c.loop-wiring.invariant) }
