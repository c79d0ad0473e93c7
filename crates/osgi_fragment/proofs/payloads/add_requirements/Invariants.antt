-- The places so far are added.
use Rattle.std.proofs.Common.{◌≡◌, ◌++◌, map}
use Rattle.osgi_world.specs.Lists.{below}
use Rattle.osgi_fragment.proofs.payloads.add_requirements.Given as goal

abbrev pub invariant-loop-index : goal.invariant-loop-index
invariant-loop-index l = l.requirements ≡ l.initial.requirements ++ map (λ i. record { owner = l.owner; index = i }) (below l.index)
