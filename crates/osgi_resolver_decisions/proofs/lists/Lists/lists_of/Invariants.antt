-- The lists of the requirements so far are there.
use Rattle.std.proofs.Common.{◌≡◌, ◌<◌, Some, length}
use Rattle.std.specs.Option.{option_map}
use Rattle.std.specs.Prelude.{slice_get}
use Rattle.osgi_world.specs.Candidates.{CanBeAsked, candidates}
use Rattle.osgi_world.specs.declared.problem.Problem.{Problem}
use Rattle.osgi_world.specs.declared.wiring.ReqRef.{ReqRef}
use Rattle.osgi_resolver_decisions.specs.computed.Known.{IsProblemIn}
use Rattle.osgi_resolver_decisions.proofs.lists.Lists.lists_of.Given as goal

abbrev pub invariant-loop-index : goal.invariant-loop-index
invariant-loop-index l = record {
  filled : length l.lists.items ≡ l.index;
  right : (P : Problem) (q : ReqRef) → IsProblemIn l.self.offers P → q.owner ≡ l.owner → q.index < l.index → CanBeAsked P.world.known q →
      option_map (λ list. list.items) (slice_get l.lists.items q.index) ≡ Some (candidates P q);
}
