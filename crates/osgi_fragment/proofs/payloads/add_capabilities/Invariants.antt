-- The places so far are added.
use Rattle.std.proofs.Common.{◌≡◌, ◌++◌, map}
use Rattle.osgi_world.specs.Lists.{below}
use Rattle.osgi_fragment.proofs.payloads.add_capabilities.Given as goal

abbrev pub invariant-loop-index : goal.invariant-loop-index
invariant-loop-index l = l.capabilities ≡ l.initial.capabilities ++ map (λ i. record { provider = l.provider; owner = l.owner; index = i }) (below l.index)
