-- The requirements that have wires in the wirings so far.
use Rattle.std.proofs.Common.{◌≡◌, take}
use Rattle.osgi_space_rules.specs.computed.Growing.{Grows, Nothing, AnyOf}
use Rattle.osgi_space_rules.specs.computed.Keys.{wired_place}
use Rattle.osgi_world.specs.Lists.{In}
use Rattle.osgi_space_rules.proofs.indexed.wired_places.Given as goal

abbrev pub invariant-loop-wiring : goal.invariant-loop-wiring
invariant-loop-wiring l = Grows Nothing (λ key. In key l.wired.items) (λ wiring key. AnyOf (λ w. key ≡ wired_place wiring.revision w.requirement) wiring.wires) (take l.wiring-index l.wirings)
