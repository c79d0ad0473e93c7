-- What was told so far goes on with what the listeners see that are left; what was made is what filters read.
use Rattle.osgi_sights.specs.Shown.{shown}
use Rattle.osgi_listeners.specs.Sights.{sights_of}
use Rattle.osgi_sights.specs.computed.Asking.{askers}
use Rattle.osgi_sights.specs.computed.Telling.{AreMade}
use Rattle.osgi_sights.proofs.Onward.{IsUnderway}
use Rattle.osgi_sights.proofs.telling.tell.Given as goal

abbrev pub invariant-loop-listener : goal.invariant-loop-listener
invariant-loop-listener l = record {
  told : IsUnderway l.fn.onlookers.listeners.now l.fn.onlookers.removed l.fn.onlookers.wirings.now.world (shown l.fn.happening) l.fn.place (askers (shown l.fn.happening) l.fn.onlookers.listeners.now.rows) l.listener-iterator (sights_of l.fn.told.items) (sights_of l.told.items);
  made : AreMade (shown l.fn.happening) l.made;
}
