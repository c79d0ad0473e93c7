-- What is left is skipped to the same place.
use Rattle.std.proofs.Common.{◌≡◌, length}
use Rattle.osgi_filter.specs.computed.Reader.{skip}
use Rattle.osgi_filter.proofs.scan.skip.Given as goal

abbrev pub invariant-loop-rest : goal.invariant-loop-rest
invariant-loop-rest l = skip l.rest ≡ skip l.fn.bytes

abbrev pub decreases-loop-rest : goal.decreases-loop-rest
decreases-loop-rest l = length l.rest
