-- The decisions of the owners so far are added.
use Rattle.std.proofs.Common.{◌≡◌, ◌++◌, take, IsTrue}
use Rattle.std.specs.Prelude.{All}
use Rattle.osgi_base.specs.declared.ids.RevisionId.{RevisionId}
use Rattle.osgi_world.specs.Lookups.{is_current}
use Rattle.osgi_world.specs.declared.problem.Problem.{Problem}
use Rattle.osgi_resolver_decisions.specs.computed.Asks.{asks_by, decisions_in}
use Rattle.osgi_resolver_decisions.specs.computed.Known.{IsProblemIn}
use Rattle.osgi_resolver_decisions.proofs.payload.add_kind.Given as goal

abbrev pub invariant-loop-owner : goal.invariant-loop-owner
invariant-loop-owner l =
    (P : Problem) → IsProblemIn l.lists.offers P → All (λ (o : RevisionId). IsTrue (is_current P.world.known o)) l.owners →
    decisions_in l.asks.items ≡ decisions_in l.initial.asks.items ++ asks_by P l.host l.kind (take l.owner-index l.owners)
