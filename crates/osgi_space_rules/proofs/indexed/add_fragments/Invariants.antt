-- The attachments that were there, and those of the fragments so far.
use Rattle.std.proofs.Common.{◌≡◌, take}
use Rattle.osgi_space_rules.specs.computed.Growing.{Grows}
use Rattle.osgi_space_rules.specs.computed.Keys.{attachment}
use Rattle.osgi_world.specs.Lists.{In}
use Rattle.osgi_space_rules.proofs.indexed.add_fragments.Given as goal

abbrev pub invariant-loop-fragment : goal.invariant-loop-fragment
invariant-loop-fragment l = Grows (λ key. In key l.initial.attached.items) (λ key. In key l.attached.items) (λ f key. key ≡ attachment l.wiring.revision f) (take l.fragment-index l.fragment-items)
