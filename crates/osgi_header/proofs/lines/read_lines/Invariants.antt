-- After the lines so far stand those of what is left.
use Rattle.std.proofs.Common.{◌≤◌, ◌-◌, ◌++◌, List, length}
use Rattle.osgi_header.specs.computed.HeaderReader.{lines_seen}
use Rattle.osgi_header.specs.Lines.{AreLines, PhysicalLine}
use Rattle.osgi_header.proofs.lines.read_lines.Given as goal

abbrev pub invariant-loop-text : goal.invariant-loop-text
invariant-loop-text l = record {
  within : length l.rest ≤ length l.bytes;
  read : (others : List PhysicalLine) → AreLines (length l.bytes - length l.rest) l.rest others → AreLines 0 l.bytes (lines_seen l.lines.items ++ others);
}

abbrev pub decreases-loop-text : goal.decreases-loop-text
decreases-loop-text l = length l.rest
