-- The row at the place.
use Rattle.std.proofs.Common.{sym}
use Rattle.osgi_listeners.proofs.Changes.{row_absent, row_found}
use Rattle.osgi_listeners.specs.laws.Ids.{ids_rise}
use Rattle.osgi_listeners.proofs.slots.slot_of.Goals as goal

pub returns-in-Some : goal.returns-in-Some
returns-in-Some c = record { slot = sym (row_found c.args.slots.now (ids_rise c.args.slots.now c.requires.rising) c.args.listener c.in-Some.at c.index-slots-at.result c.in-Some.ensures.place c.index-slots-at.is) }

pub returns-in-None : goal.returns-in-None
returns-in-None c = record { slot = sym (row_absent c.args.slots.now c.args.listener c.in-None.ensures.place) }
