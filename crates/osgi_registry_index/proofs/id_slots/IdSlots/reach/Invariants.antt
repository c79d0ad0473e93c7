-- What stands in slots stays; each turn makes one slot.
use Rattle.std.proofs.Common.{◌-◌, ◌+◌, vec_len}
use Rattle.osgi_registry_index.specs.Slots.{KeepsSame}
use Rattle.osgi_registry_index.proofs.id_slots.IdSlots.reach.Given as goal

abbrev pub decreases-loop-self : goal.decreases-loop-self
decreases-loop-self l = l.slot + 1 - vec_len l.self.slots

abbrev pub invariant-loop-self : goal.invariant-loop-self
invariant-loop-self l = KeepsSame l.fn.self.slots.items l.self.slots.items
