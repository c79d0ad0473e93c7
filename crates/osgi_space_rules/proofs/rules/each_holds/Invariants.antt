-- The wirings so far keep the rules.
use Rattle.std.proofs.Common.{take}
use Rattle.osgi_space_rules.specs.computed.Growing.{Each}
use Rattle.osgi_space_rules.specs.computed.Holding.{WiringHolds}
use Rattle.osgi_space_rules.proofs.rules.each_holds.Given as goal

abbrev pub invariant-loop-wiring : goal.invariant-loop-wiring
invariant-loop-wiring l = Each (WiringHolds l.known l.index) (take l.wiring-index l.wiring-items)
