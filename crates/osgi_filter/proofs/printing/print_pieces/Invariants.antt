-- What is written goes on with the text of the pieces that are left.
use Rattle.std.proofs.Common.{◌≡◌, ◌∷◌, ◌++◌, length}
use Rattle.osgi_model.specs.FilterTexts.{starred}
use Rattle.osgi_filter.proofs.printing.print_pieces.Given as goal

abbrev pub invariant-loop-pieces : goal.invariant-loop-pieces
invariant-loop-pieces l = l.out.items ++ starred (l.piece ∷ l.pieces) ≡ l.fn.out.items ++ starred (l.fn.first ∷ l.fn.others)

abbrev pub decreases-loop-pieces : goal.decreases-loop-pieces
decreases-loop-pieces l = length l.pieces
