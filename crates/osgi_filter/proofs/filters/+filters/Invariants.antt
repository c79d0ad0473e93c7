-- Each call below a level has fewer levels, and the operands so far go on with what is left.
use Rattle.std.proofs.Common.{◌≡◌, ◌+◌, ◌*◌, length, []}
use Rattle.osgi_filter.specs.computed.Reader.{operand, listing, filter_at}
use Rattle.osgi_filter.proofs.filters.+filters.Given as goal

abbrev pub decreases-filter_at : goal.decreases-filter_at
decreases-filter_at l = 5 * l.levels

abbrev pub decreases-not_at : goal.decreases-not_at
decreases-not_at l = 5 * l.levels + 1

abbrev pub decreases-operands_at : goal.decreases-operands_at
decreases-operands_at l = 5 * l.levels + 1

abbrev pub decreases-composed_at : goal.decreases-composed_at
decreases-composed_at l = 5 * l.levels + 2

abbrev pub invariant-operands_at-loop-rest : goal.invariant-operands_at-loop-rest
invariant-operands_at-loop-rest l = operand (filter_at l.levels) (listing (filter_at l.levels)) l.filters l.rest ≡ listing (filter_at l.levels) [] l.fn.bytes

abbrev pub decreases-operands_at-loop-rest : goal.decreases-operands_at-loop-rest
decreases-operands_at-loop-rest l = length l.rest

abbrev pub decreases-inside : goal.decreases-inside
decreases-inside l = 5 * l.levels + 3

abbrev pub decreases-level_at : goal.decreases-level_at
decreases-level_at l = 5 * l.levels + 4
