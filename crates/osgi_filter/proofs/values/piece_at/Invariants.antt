-- The bytes so far stand for themselves.
use Rattle.std.proofs.Common.{◌≡◌, [], false, take, drop}
use Rattle.osgi_filter.specs.computed.Reader.{piece_at}
use Rattle.osgi_filter.proofs.values.piece_at.Given as goal

abbrev pub invariant-loop-at : goal.invariant-loop-at
invariant-loop-at l = piece_at l.stars false (take l.at l.bytes) (drop l.at l.bytes) ≡ piece_at l.stars false [] l.bytes
