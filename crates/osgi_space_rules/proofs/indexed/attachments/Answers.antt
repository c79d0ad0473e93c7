-- One more wiring.
use Rattle.std.proofs.Common.{◌≡◌}
use Rattle.osgi_space_rules.specs.computed.Growing.{AnyOf}
use Rattle.osgi_space_rules.specs.computed.Keys.{attachment}
use Rattle.osgi_space_rules.proofs.Grow.{grow_done, grow_step}
use Rattle.osgi_space_rules.proofs.Sets.{attached_is}
use Rattle.osgi_world.specs.declared.wiring.Wiring.{Wiring}
use Rattle.osgi_space_rules.proofs.indexed.attachments.Goals as goal

pub loop-wiring-preserved : goal.loop-wiring-preserved
loop-wiring-preserved c =
    grow_step (λ (g : Wiring) key. AnyOf (λ f. key ≡ attachment g.revision f) g.fragments) _ _ _ c.args.wirings.now c.loop-wiring.wiring-index c.wiring-item.result c.loop-wiring-test.true c.wiring-item.is c.loop-wiring.invariant
    c.in_ok-add_fragments.ensures.added

pub returns : goal.returns
returns c = record { attached = attached_is _ c.args.wirings.now (grow_done _ _ _ c.args.wirings.now c.loop-wiring.wiring-index c.loop-wiring-test.false c.loop-wiring.invariant) }
