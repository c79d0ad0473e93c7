-- The fragments so far are met.
use Rattle.std.proofs.Common.{take}
use Rattle.osgi_space_rules.specs.computed.Growing.{Each}
use Rattle.osgi_space_rules.specs.computed.Holding.{IsMet}
use Rattle.osgi_space_rules.proofs.payload.are_fragments_met.Given as goal

abbrev pub invariant-loop-fragment : goal.invariant-loop-fragment
invariant-loop-fragment l = Each (IsMet l.known l.index l.wiring.revision) (take l.fragment-index l.fragment-items)
