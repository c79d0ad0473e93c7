-- Two of the properties have one name where two of those that are left do, or one that is left has a name that came before.
use Rattle.std.proofs.Common.{◌≡◌, length}
use Rattle.std.specs.Prelude.{◌||◌}
use Rattle.osgi_ops.specs.Properties.{has_twins}
use Rattle.osgi_registry_index.proofs.Twins.{one_seen}
use Rattle.osgi_registry_index.proofs.properties.has_twins_of_many.Given as goal

abbrev pub invariant-loop-first : goal.invariant-loop-first
invariant-loop-first l = has_twins l.properties ≡ (one_seen l.names l.left || has_twins l.left)

abbrev pub decreases-loop-first : goal.decreases-loop-first
decreases-loop-first l = length l.left
