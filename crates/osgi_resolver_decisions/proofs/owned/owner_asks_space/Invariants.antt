-- Whether one of the requirements so far has such a decision.
use Rattle.std.proofs.Common.{◌≡◌, map, IsTrue}
use Rattle.std.specs.List.{list_any}
use Rattle.osgi_world.specs.Lists.{below}
use Rattle.osgi_world.specs.Lookups.{is_current}
use Rattle.osgi_world.specs.declared.problem.Problem.{Problem}
use Rattle.osgi_resolver_decisions.specs.computed.Known.{IsProblemIn}
use Rattle.osgi_resolver_decisions.specs.computed.Free.{asks_space}
use Rattle.osgi_resolver_decisions.proofs.owned.owner_asks_space.Given as goal

abbrev pub invariant-loop-index : goal.invariant-loop-index
invariant-loop-index l =
    (P : Problem) → IsProblemIn l.offers P → IsTrue (is_current P.world.known l.owner) →
    l.asks ≡ list_any (asks_space P) (map (λ i. record { owner = l.owner; index = i }) (below l.index))
