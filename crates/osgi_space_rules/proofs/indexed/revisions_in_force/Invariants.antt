-- The revisions of the wirings so far.
use Rattle.std.proofs.Common.{◌≡◌, take}
use Rattle.osgi_space_rules.specs.computed.Growing.{Grows, Nothing}
use Rattle.osgi_world.specs.Lists.{In}
use Rattle.osgi_space_rules.proofs.indexed.revisions_in_force.Given as goal

abbrev pub invariant-loop-wiring : goal.invariant-loop-wiring
invariant-loop-wiring l = Grows Nothing (λ key. In key l.in_force.items) (λ wiring key. key ≡ wiring.revision) (take l.wiring-index l.wirings)
