-- The decisions of the requirements so far are added.
use Rattle.std.proofs.Common.{◌≡◌, ◌++◌, map, IsTrue}
use Rattle.osgi_world.specs.Lists.{below}
use Rattle.osgi_world.specs.Lookups.{is_current}
use Rattle.osgi_world.specs.declared.problem.Problem.{Problem}
use Rattle.osgi_resolver_decisions.specs.computed.Asks.{asks_among, decisions_in}
use Rattle.osgi_resolver_decisions.specs.computed.Known.{IsProblemIn}
use Rattle.osgi_resolver_decisions.proofs.asks.add_owner.Given as goal

abbrev pub invariant-loop-index : goal.invariant-loop-index
invariant-loop-index l =
    (P : Problem) → IsProblemIn l.offers P → IsTrue (is_current P.world.known l.owner) →
    decisions_in l.asks.items ≡ decisions_in l.initial.asks.items ++ asks_among P l.host l.kind (map (λ i. record { owner = l.owner; index = i }) (below l.index))
