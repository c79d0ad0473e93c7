-- The oldest is taken, and those behind it that were cleaned are dropped.
use Rattle.std.proofs.Common.{◌-◌, length, map, arith, sym, ap, ◌∙◌}
use Rattle.osgi_jobs.specs.Queue.{queued_of}
use Rattle.osgi_jobs.specs.computed.Kept.{counted_in}
use Rattle.osgi_jobs.proofs.Standings.{front-cleaned, kept-after, taken-queued}
use Rattle.osgi_ops.specs.Jobs.{without_oldest}
use Rattle.osgi_jobs.proofs.jobs.Jobs.take.Goals as goal

pub invariant_of-self-2 : goal.invariant_of-self-2
invariant_of-self-2 c =
    let front = front-cleaned (counted_in c.self.inside.counts) c.self.inside.standing.items c.in-Some.job c.pop_front.new.self.items c.in-Some.ensures.items c.self.invariant.front in
    let taken = taken-queued c.self.inside.counts c.recount.new.counts c.self.inside.standing.items c.pop_front.new.self.items c.in-Some.job c.count_of-before.result c.in-Some.ensures.items c.count_of-before.ensures.counted c.self.invariant.counted front
    c.recount.ensures.counted in
    let number = c.self.invariant.number ∙ ap length taken in
    kept-after (counted_in c.drop_cleaned.new.counts) c.drop_cleaned.new.standing.items (c.self.inside.queued - 1) _ c.drop_cleaned.ensures.counted c.drop_cleaned.ensures.queued c.drop_cleaned.ensures.front (omega (arith, number))

pub returns : goal.returns
returns c =
    let front = front-cleaned (counted_in c.self.inside.counts) c.self.inside.standing.items c.in-Some.job c.pop_front.new.self.items c.in-Some.ensures.items c.self.invariant.front in
    let taken = taken-queued c.self.inside.counts c.recount.new.counts c.self.inside.standing.items c.pop_front.new.self.items c.in-Some.job c.count_of-before.result c.in-Some.ensures.items c.count_of-before.ensures.counted c.self.invariant.counted front
    c.recount.ensures.counted in
    record { taken = ap (map queued_of) c.drop_cleaned.ensures.queued ∙ ap (λ l. without_oldest (map queued_of l)) (sym taken) ∙ ap without_oldest c.self.view_is }
