-- What was passed over is digits.
use Rattle.std.proofs.Common.{◌≤◌, length, drop}
use Rattle.osgi_version.specs.Bytes.{IsDigit, Each}
use Rattle.osgi_version.proofs.examine.number_start.Given as goal

abbrev pub invariant-loop-start : goal.invariant-loop-start
invariant-loop-start l = record { within : l.start ≤ length l.bytes; digits : Each IsDigit (drop l.start l.bytes) }

abbrev pub decreases-loop-start : goal.decreases-loop-start
decreases-loop-start l = l.start
