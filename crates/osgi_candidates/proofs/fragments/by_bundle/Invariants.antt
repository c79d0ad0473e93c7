-- The fragments so far, in the order of the set.
use Rattle.std.proofs.Common.{◌≡◌, map}
use Rattle.std.specs.Map.Iter.{deref}
use Rattle.osgi_candidates.specs.computed.Fragments.{fragment_of}
use Rattle.osgi_candidates.proofs.fragments.by_bundle.Given as goal

abbrev pub invariant-loop-one : goal.invariant-loop-one
invariant-loop-one l = l.list.items ≡ map fragment_of (map deref l.yielded)
