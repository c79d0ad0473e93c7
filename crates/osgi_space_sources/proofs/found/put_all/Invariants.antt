-- The values so far were put into the set.
use Rattle.std.proofs.Common.{◌⊎◌, Contains, IsTrue, take}
use Rattle.std.specs.BTreeSet.{contains}
use Rattle.osgi_space_sources.specs.computed.Collected.{Has}
use Rattle.osgi_space_sources.proofs.found.put_all.Given as goal

abbrev pub invariant-loop-item : goal.invariant-loop-item
invariant-loop-item g l = Has g.T.Ord.cmp l.set (λ x. IsTrue (contains g.T.Ord.cmp l.fn.set x) ⊎ Contains (take l.item-index l.list) x)
