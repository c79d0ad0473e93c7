-- What the words that are left ask for, after the options that were given, is what all words ask for.
use Rattle.std.proofs.Common.{length}
use Rattle.std.specs.Prelude.{None}
use Rattle.osgi_ops.specs.Settings.{Bounds}
use Rattle.osgi_program.specs.computed.Options.{AsksMore}
use Rattle.osgi_program.proofs.words.options.Given as goal

abbrev pub invariant-loop-rest : goal.invariant-loop-rest
invariant-loop-rest l = record {
  reads : (bounds : Bounds) → AsksMore l.chosen.budget l.chosen.handings l.rest bounds → AsksMore None None l.words bounds;
  only : (bounds : Bounds) → AsksMore None None l.words bounds → AsksMore l.chosen.budget l.chosen.handings l.rest bounds;
}

abbrev pub decreases-loop-rest : goal.decreases-loop-rest
decreases-loop-rest l = length l.rest
