-- One more wiring, and all of them.
use Rattle.osgi_candidates.specs.computed.InUses.{HasRevision, IsUsedBy}
use Rattle.osgi_candidates.proofs.Following.{in_use_grow}
use Rattle.osgi_space_rules.proofs.Grow.{grow_done, grow_step}
use Rattle.osgi_candidates.proofs.in_use.add_all_in_use.Goals as goal

pub loop-wiring-preserved : goal.loop-wiring-preserved
loop-wiring-preserved c = grow_step IsUsedBy _ _ _ c.args.wirings.now c.loop-wiring.wiring-index c.wiring-item.result c.loop-wiring-test.true c.wiring-item.is c.loop-wiring.invariant c.in_ok-add_in_use.ensures.added

pub returns : goal.returns
returns c = record {
  added = λ W are.
      in_use_grow W c.args.wirings.now c.args.in_use.now c.loop-wiring.in_use (grow_done IsUsedBy (HasRevision c.args.in_use.now) (HasRevision c.loop-wiring.in_use) c.args.wirings.now c.loop-wiring.wiring-index c.loop-wiring-test.false c.loop-wiring.invariant) are;
}
