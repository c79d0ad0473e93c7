-- The sights so far are told to their listeners.
use Rattle.std.proofs.Common.{◌≡◌, map, take}
use Rattle.osgi_listeners.specs.Sights.{sights_of, told_all}
use Rattle.osgi_listeners.proofs.listeners.Listeners.deliver_all.Given as goal

abbrev pub invariant-loop-sight : goal.invariant-loop-sight
invariant-loop-sight l = record {
  rows : l.self.rows ≡ map (told_all l.entry (sights_of (take l.sight-index l.sights))) l.fn.self.rows;
  turns : l.self.turns ≡ l.fn.self.turns;
  issued : l.self.issued ≡ l.fn.self.issued;
}
