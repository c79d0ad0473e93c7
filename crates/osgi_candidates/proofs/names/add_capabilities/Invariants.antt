-- The capabilities at the places so far.
use Rattle.osgi_candidates.specs.computed.Names.{GrowsBy}
use Rattle.osgi_candidates.proofs.Naming.{AddedBelow}
use Rattle.osgi_candidates.proofs.names.add_capabilities.Given as goal

abbrev pub invariant-loop-index : goal.invariant-loop-index
invariant-loop-index l = GrowsBy l.initial.capabilities l.capabilities (AddedBelow l.known l.index)
