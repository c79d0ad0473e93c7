-- The marks after these are of other decisions.
use Rattle.std.proofs.Common.{◌≡◌, ◌≤◌, length, take, reverse}
use Rattle.osgi_world.specs.Decisions.{value_made}
use Rattle.osgi_resolver_decisions.specs.DecisionOf.{decision_of}
use Rattle.osgi_resolver_path.specs.computed.Courses.{made_of}
use Rattle.osgi_resolver_path.proofs.growing.value_of.Given as goal

abbrev pub invariant-loop-left : goal.invariant-loop-left
invariant-loop-left l = record {
  within : l.left ≤ length l.marks;
  same : value_made (made_of (reverse l.marks)) (decision_of l.decision) ≡ value_made (made_of (reverse (take l.left l.marks))) (decision_of l.decision);
}

abbrev pub decreases-loop-left : goal.decreases-loop-left
decreases-loop-left l = l.left
