-- Room is made for the counts so far.
use Rattle.std.proofs.Common.{map}
use Rattle.std.specs.Map.Iter.{deref_pair}
use Rattle.osgi_listeners.specs.Rows.{AreRoomierRows}
use Rattle.osgi_listeners.proofs.Counting.{AreReserved}
use Rattle.osgi_listeners.proofs.counts.reserve_counts.Given as goal

abbrev pub invariant-loop-id : goal.invariant-loop-id
invariant-loop-id l = record {
  roomier : AreRoomierRows l.fn.slots l.slots;
  room : AreReserved (map deref_pair l.yielded) l.slots;
}
