-- The bundles so far are those of the numbers so far.
use Rattle.std.proofs.Common.{◌≡◌, map, take}
use Rattle.osgi_reply_resolving.specs.computed.Searched.{bundle_of}
use Rattle.osgi_reply_resolving.proofs.resolving.as_bundles.Given as goal

abbrev pub invariant-loop-number : goal.invariant-loop-number
invariant-loop-number l = l.bundles ≡ map bundle_of (take l.number-index l.numbers)
