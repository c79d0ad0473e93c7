-- No line so far is too long.
use Rattle.std.proofs.Common.{◌≡◌, drop}
use Rattle.osgi_header.specs.computed.HeaderReader.{first_long, lines_seen}
use Rattle.osgi_header.proofs.unfolding.first_long.Given as goal

abbrev pub invariant-loop-line : goal.invariant-loop-line
invariant-loop-line l = first_long (lines_seen (drop l.line-index l.lines)) ≡ first_long (lines_seen l.lines)
