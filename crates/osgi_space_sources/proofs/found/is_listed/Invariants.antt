-- None of the values so far is the one that is looked for.
use Rattle.std.proofs.Common.{◌≡◌, Any, take}
use Rattle.osgi_space_sources.proofs.found.is_listed.Given as goal

abbrev pub invariant-loop-item : goal.invariant-loop-item
invariant-loop-item g l = ¬ Any (λ x. x ≡ l.node) (take l.item-index l.list)
