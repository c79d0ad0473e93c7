-- What was there, and the requirements of the wires so far.
use Rattle.std.proofs.Common.{◌≡◌, take}
use Rattle.osgi_space_rules.specs.computed.Growing.{Grows}
use Rattle.osgi_space_rules.specs.computed.Keys.{wired_place}
use Rattle.osgi_world.specs.Lists.{In}
use Rattle.osgi_space_rules.proofs.indexed.add_wired.Given as goal

abbrev pub invariant-loop-wire : goal.invariant-loop-wire
invariant-loop-wire l = Grows (λ key. In key l.initial.wired.items) (λ key. In key l.wired.items) (λ w key. key ≡ wired_place l.wiring.revision w.requirement) (take l.wire-index l.wire-items)
