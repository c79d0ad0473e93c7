-- The attachments of the wirings so far.
use Rattle.std.proofs.Common.{◌≡◌, take}
use Rattle.osgi_space_rules.specs.computed.Growing.{Grows, Nothing, AnyOf}
use Rattle.osgi_space_rules.specs.computed.Keys.{attachment}
use Rattle.osgi_world.specs.Lists.{In}
use Rattle.osgi_space_rules.proofs.indexed.attachments.Given as goal

abbrev pub invariant-loop-wiring : goal.invariant-loop-wiring
invariant-loop-wiring l = Grows Nothing (λ key. In key l.attached.items) (λ wiring key. AnyOf (λ f. key ≡ attachment wiring.revision f) wiring.fragments) (take l.wiring-index l.wirings)
