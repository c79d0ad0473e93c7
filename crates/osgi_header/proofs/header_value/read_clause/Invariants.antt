-- The clause so far goes on with what is left.
use Rattle.std.proofs.Common.{◌≡◌}
use Rattle.osgi_header.specs.computed.ClauseReader.{clause_after, clause_of}
use Rattle.osgi_header.specs.computed.Cutting.{cut_left, left_after, left_len}
use Rattle.osgi_header.proofs.header_value.read_clause.Given as goal

abbrev pub invariant-loop-left : goal.invariant-loop-left
invariant-loop-left l = clause_after l.clause (cut_left 59 (left_after l.left)) ≡ clause_of l.text

abbrev pub decreases-loop-left : goal.decreases-loop-left
decreases-loop-left l = left_len (left_after l.left)
