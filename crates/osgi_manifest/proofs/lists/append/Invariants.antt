-- The items so far go on with those that are left.
use Rattle.std.proofs.Common.{◌≡◌, ◌++◌}
use Rattle.osgi_manifest.proofs.lists.append.Given as goal

abbrev pub invariant-loop-item : goal.invariant-loop-item
invariant-loop-item g l = l.all ++ l.item-iterator.rest.items ≡ l.fn.first ++ l.fn.second
