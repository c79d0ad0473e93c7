-- The bytes so far, and those of the line that are left, are those of the line.
use Rattle.std.proofs.Common.{◌≡◌, ◌+◌, drop}
use Rattle.std.specs.List.{prefix_len}
use Rattle.osgi_header.specs.Lines.{is_line_byte}
use Rattle.osgi_header.proofs.lines.line_len.Given as goal

abbrev pub invariant-loop-at : goal.invariant-loop-at
invariant-loop-at l = l.at + prefix_len is_line_byte (drop l.at l.bytes) ≡ prefix_len is_line_byte l.bytes
