-- The requirements so far have a candidate, or are not needed.
use Rattle.std.proofs.Common.{ℕ, ◌<◌}
use Rattle.osgi_resolver_decisions.proofs.Lacking.{IsLackingAt}
use Rattle.osgi_resolver_decisions.proofs.owned.has_lacking.Given as goal

abbrev pub invariant-loop-index : goal.invariant-loop-index
invariant-loop-index l = (k : ℕ) → k < l.index → ¬ IsLackingAt l.offers l.owner l.lists k
