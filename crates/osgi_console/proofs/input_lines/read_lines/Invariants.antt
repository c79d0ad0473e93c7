-- The lines so far, and those of what is left.
use Rattle.std.proofs.Common.{◌≡◌, ◌≤◌, ◌+◌, ◌++◌, length}
use Rattle.std.specs.Str.Lines.{lines}
use Rattle.osgi_console.specs.computed.LineReader.{numbered}
use Rattle.osgi_console.proofs.input_lines.read_lines.Given as goal

abbrev pub invariant-loop-text : goal.invariant-loop-text
invariant-loop-text l = record {
  number : l.number + length l.rest ≤ length l.bytes + 1;
  read : l.all ++ numbered l.lanes l.number (lines l.rest) ≡ numbered l.lanes 1 (lines l.bytes);
}

abbrev pub decreases-loop-text : goal.decreases-loop-text
decreases-loop-text l = length l.rest
