-- One sight more is counted.
use Rattle.std.proofs.Common.{arith}
use Rattle.std.proofs.lemmas.Grind.{common_steps}
use Rattle.std.proofs.lemmas.List.Sums.{count_by_more_no, count_by_more_yes}
use Rattle.osgi_listeners.proofs.counts.counts_of.Goals as goal

pub loop-sight-preserved : goal.loop-sight-preserved
loop-sight-preserved c = λ id. grind (arith, common_steps, count_by_more_yes, count_by_more_no, c.loop-sight.invariant id)
