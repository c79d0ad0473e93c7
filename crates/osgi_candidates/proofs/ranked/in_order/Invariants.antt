-- The capabilities so far, in the order of the set.
use Rattle.std.proofs.Common.{◌≡◌, map}
use Rattle.std.specs.Map.Iter.{deref}
use Rattle.osgi_candidates.specs.computed.Ranking.{capability_of}
use Rattle.osgi_candidates.proofs.ranked.in_order.Given as goal

abbrev pub invariant-loop-one : goal.invariant-loop-one
invariant-loop-one l = l.list.items ≡ map capability_of (map deref l.yielded)
