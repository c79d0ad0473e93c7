-- The wires so far keep the rules.
use Rattle.std.proofs.Common.{take}
use Rattle.osgi_space_rules.specs.computed.Growing.{Each}
use Rattle.osgi_space_rules.specs.computed.Holding.{WireHolds}
use Rattle.osgi_space_rules.proofs.rules.do_wires_hold.Given as goal

abbrev pub invariant-loop-wire : goal.invariant-loop-wire
invariant-loop-wire l = Each (WireHolds l.known l.index l.wiring.revision) (take l.wire-index l.wire-items)
