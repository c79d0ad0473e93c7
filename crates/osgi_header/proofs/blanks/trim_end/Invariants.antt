-- The spaces and tabs so far were dropped.
use Rattle.std.proofs.Common.{◌≡◌, length}
use Rattle.osgi_header.specs.computed.ClauseReader.{before_blanks}
use Rattle.osgi_header.proofs.blanks.trim_end.Given as goal

abbrev pub invariant-loop-rest : goal.invariant-loop-rest
invariant-loop-rest l = before_blanks l.rest ≡ before_blanks l.text

abbrev pub decreases-loop-rest : goal.decreases-loop-rest
decreases-loop-rest l = length l.rest
