-- What is counted fits, and the same are queued; each turn drops one.
use Rattle.std.proofs.Common.{◌≡◌, length}
use Rattle.osgi_jobs.specs.computed.Kept.{AreCounted, counted_in, queued_in}
use Rattle.osgi_jobs.proofs.jobs.drop_cleaned.Given as goal

abbrev pub invariant-loop : goal.invariant-loop
invariant-loop l = AreCounted (counted_in l.counts) l.standing.items × (queued_in (counted_in l.counts) l.standing.items ≡ queued_in (counted_in l.initial.counts) l.initial.standing.items)

abbrev pub decreases-loop : goal.decreases-loop
decreases-loop l = length l.standing.items
