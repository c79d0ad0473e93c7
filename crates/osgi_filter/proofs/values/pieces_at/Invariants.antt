-- The pieces so far go on with the piece that is next.
use Rattle.std.proofs.Common.{◌≡◌, ◌∷◌, [], true, false, length}
use Rattle.osgi_filter.specs.computed.Reader.{◌>>=◌, piece_at, ended_piece, value_at}
use Rattle.osgi_filter.proofs.values.pieces_at.Given as goal

abbrev pub invariant-loop-pieces : goal.invariant-loop-pieces
invariant-loop-pieces l = (piece_at true false [] l.rest >>= λ p. ended_piece true l.pieces p.0 p.1) ≡ value_at true false (l.fn.first ∷ []) [] l.fn.bytes

abbrev pub decreases-loop-pieces : goal.decreases-loop-pieces
decreases-loop-pieces l = length l.rest
