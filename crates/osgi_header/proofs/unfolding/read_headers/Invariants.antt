-- The headers so far go on with those of the lines that are left.
use Rattle.std.proofs.Common.{◌≡◌, ◌≤◌, ◌-◌, drop, length}
use Rattle.osgi_header.specs.computed.HeaderReader.{groups_of, headers_from, headers_onto, lines_seen}
use Rattle.osgi_header.proofs.unfolding.read_headers.Given as goal

abbrev pub invariant-loop-first : goal.invariant-loop-first
invariant-loop-first l = record {
  within : l.start ≤ length l.lines;
  read : headers_onto l.all.items (headers_from (groups_of (lines_seen (drop l.start l.lines)))) ≡ headers_from (groups_of (lines_seen l.lines));
}

abbrev pub decreases-loop-first : goal.decreases-loop-first
decreases-loop-first l = length l.lines - l.start
