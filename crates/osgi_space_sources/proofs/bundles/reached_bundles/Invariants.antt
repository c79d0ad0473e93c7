-- What was found is reached, and what the first ones of it reexport was found.
use Rattle.std.proofs.Common.{◌-◌, ◌^◌}
use Rattle.osgi_space_sources.proofs.Worklist.{IsWorklist}
use Rattle.osgi_space_rows.specs.Rows.{Reexports, Requires}
use Rattle.osgi_space_sources.proofs.bundles.reached_bundles.Given as goal

abbrev pub invariant-loop-next : goal.invariant-loop-next
invariant-loop-next l = IsWorklist (Requires l.rows l.revision) (Reexports l.rows) l.found l.next

abbrev pub decreases-loop-next : goal.decreases-loop-next
decreases-loop-next l = 2 ^ 64 - l.next
