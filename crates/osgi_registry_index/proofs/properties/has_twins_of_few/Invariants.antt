-- The twins are among the properties that are left.
use Rattle.std.proofs.Common.{◌≡◌, length}
use Rattle.osgi_ops.specs.Properties.{has_twins}
use Rattle.osgi_registry_index.proofs.properties.has_twins_of_few.Given as goal

abbrev pub invariant-loop-first : goal.invariant-loop-first
invariant-loop-first l = has_twins l.properties ≡ has_twins l.left

abbrev pub decreases-loop-first : goal.decreases-loop-first
decreases-loop-first l = length l.left
