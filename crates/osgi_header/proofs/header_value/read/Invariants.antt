-- The clauses so far go on with those of what is left.
use Rattle.std.proofs.Common.{◌≡◌, ◌≤◌, ◌+◌, ◌-◌, length}
use Rattle.osgi_header.specs.computed.ClauseReader.{read_from, read_of, read_onto}
use Rattle.osgi_header.specs.computed.Cutting.{cut_left, left_after, left_len}
use Rattle.osgi_header.proofs.header_value.read.Given as goal

abbrev pub invariant-loop-left : goal.invariant-loop-left
invariant-loop-left l = record {
  within : left_len (left_after l.left) ≤ length l.value + 1;
  read :
      read_onto l.clauses (read_from (length l.value + 1 - left_len (left_after l.left)) (cut_left 44 (left_after l.left)))
      ≡ read_of l.value;
}

abbrev pub decreases-loop-left : goal.decreases-loop-left
decreases-loop-left l = left_len (left_after l.left)
