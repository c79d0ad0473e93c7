-- The packages of the wires so far.
use Rattle.std.proofs.Common.{take}
use Rattle.osgi_base.specs.computed.Texts.{text_cmp}
use Rattle.osgi_candidates.specs.computed.Holding.{IsElsewhere}
use Rattle.osgi_space_rules.specs.computed.Growing.{Grows, Has, Nothing}
use Rattle.osgi_candidates.proofs.held.imported_elsewhere.Given as goal

abbrev pub invariant-loop-wire : goal.invariant-loop-wire
invariant-loop-wire l = Grows Nothing (Has text_cmp l.packages) (λ w p. IsElsewhere l.known l.wiring.revision w p) (take l.wire-index l.wire-items)
