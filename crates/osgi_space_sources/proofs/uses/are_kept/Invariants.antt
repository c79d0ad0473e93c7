-- None of the constraints so far is violated.
use Rattle.std.proofs.Common.{Any, take}
use Rattle.osgi_space_sources.specs.computed.Clashes.{IsClash}
use Rattle.osgi_space_sources.proofs.uses.are_kept.Given as goal

abbrev pub invariant-loop-pair : goal.invariant-loop-pair
invariant-loop-pair l = ¬ Any (IsClash l.rows l.revision) (take l.pair-index l.pairs)
