-- Less of the text is left after each byte.
use Rattle.std.proofs.Common.{length}
use Rattle.cases_text.proofs.bytes_of.Given as goal

abbrev pub decreases-loop-byte : goal.decreases-loop-byte
decreases-loop-byte l = length l.rest
