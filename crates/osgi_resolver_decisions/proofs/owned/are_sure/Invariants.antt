-- Each requirement so far that is needed has a candidate, and may have one wire alone.
use Rattle.std.proofs.Common.{◌≡◌, ◌<◌}
use Rattle.osgi_world.specs.Lookups.{IsNeeded}
use Rattle.osgi_world.specs.declared.wiring.ReqRef.{ReqRef}
use Rattle.osgi_resolver_decisions.specs.computed.Sureness.{IsSureBy, list_at}
use Rattle.osgi_resolver_decisions.proofs.owned.are_sure.Given as goal

abbrev pub invariant-loop-index : goal.invariant-loop-index
invariant-loop-index l = (q : ReqRef) → q.owner ≡ l.owner → q.index < l.index → IsNeeded l.offers.known q → IsSureBy l.offers.known (list_at l.lists q.index) q
