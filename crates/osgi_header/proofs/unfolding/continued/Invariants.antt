-- The lines so far, and those that are left, are those that continue.
use Rattle.std.proofs.Common.{◌≡◌, ◌+◌, drop}
use Rattle.std.specs.List.{prefix_len}
use Rattle.osgi_header.specs.computed.HeaderReader.{lines_seen}
use Rattle.osgi_header.specs.Lines.{continues}
use Rattle.osgi_header.proofs.unfolding.continued.Given as goal

abbrev pub invariant-loop-count : goal.invariant-loop-count
invariant-loop-count l = l.count + prefix_len continues (lines_seen (drop l.count l.lines)) ≡ prefix_len continues (lines_seen l.lines)
