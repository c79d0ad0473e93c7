-- The text so far goes on with the lines that are left.
use Rattle.std.proofs.Common.{◌≡◌, ◌++◌, drop}
use Rattle.std.specs.Prelude.{map}
use Rattle.std.specs.List.{concat}
use Rattle.osgi_header.specs.computed.HeaderReader.{group, line_seen, lines_seen}
use Rattle.osgi_header.specs.Lines.{joined}
use Rattle.osgi_header.proofs.unfolding.join.Given as goal

abbrev pub invariant-loop-line : goal.invariant-loop-line
invariant-loop-line l =
    l.text.items ++ concat (map (λ line. drop 1 line.text) (lines_seen (drop l.line-index l.more))) ≡ joined (group (line_seen l.first) (lines_seen l.more))
