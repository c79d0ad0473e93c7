-- The fragments among the revisions so far.
use Rattle.std.proofs.Common.{take}
use Rattle.osgi_candidates.specs.computed.Fragments.{AreBundled}
use Rattle.osgi_candidates.proofs.offers.Offers.bundled.Given as goal

abbrev pub invariant-loop-fragment : goal.invariant-loop-fragment
invariant-loop-fragment l = AreBundled l.self.known l.host (take l.fragment-index l.among) l.bundled.keys
