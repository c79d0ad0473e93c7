-- The piece so far goes on with what is left.
use Rattle.std.proofs.Common.{◌≡◌, false, length}
use Rattle.osgi_filter.specs.computed.Reader.{piece_at}
use Rattle.osgi_filter.proofs.values.escaped_at.Given as goal

abbrev pub invariant-loop-rest : goal.invariant-loop-rest
invariant-loop-rest l = piece_at l.stars l.escaped l.piece.items l.rest ≡ piece_at l.stars false l.fn.start l.fn.bytes

abbrev pub decreases-loop-rest : goal.decreases-loop-rest
decreases-loop-rest l = length l.rest
