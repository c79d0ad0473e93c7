-- Each turn makes a slot more.
use Rattle.std.proofs.Common.{◌∙◌}
use Rattle.osgi_registry_index.proofs.Slotted.{more_slots}
use Rattle.osgi_registry_index.proofs.id_slots.IdSlots.reach.Goals as goal

pub loop-self-preserved : goal.loop-self-preserved
loop-self-preserved c = λ id. more_slots c.loop-self.self.slots.items c.push.new.self.items c.in_ok-push.ensures.items id ∙ c.loop-self.invariant id
