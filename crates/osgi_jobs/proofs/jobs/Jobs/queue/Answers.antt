-- The job stands behind the others, and is counted.
use Rattle.std.proofs.Common.{◌<◌, ◌^◌, ◌∷◌, ◌++◌, [], length, rules, arith, ap, ◌∙◌}
use Rattle.osgi_jobs.specs.computed.Kept.{counted_in}
use Rattle.osgi_jobs.proofs.Standings.{few-queued, few-stand, kept-grown, kept-same, shown-grown}
use Rattle.osgi_jobs.proofs.jobs.Jobs.queue.Goals as goal

pub overflow_add-more : goal.overflow_add-more
overflow_add-more c =
    let short : length c.self.inside.standing.items < 2 ^ 63 = search rules in
    let few = few-stand (counted_in c.self.inside.counts) c.self.inside.standing.items c.args.owner.0 c.self.invariant.counted in
    let says = ap (λ s. s.standing) c.count_of-before.ensures.counted in
    record { fits = omega (arith, short, few, says) }

pub overflow_add-self : goal.overflow_add-self
overflow_add-self c =
    let short : length c.self.inside.standing.items < 2 ^ 63 = search rules in
    record { fits = omega (arith, short, few-queued (counted_in c.self.inside.counts) c.self.inside.standing.items c.self.inside.queued c.self.invariant) }

pub invariant_of-self-in_err-insert : goal.invariant_of-self-in_err-insert
invariant_of-self-in_err-insert c =
    kept-same c.self.inside.counts c.insert.new.self c.self.inside.standing.items c.reserve.new.self.items c.self.inside.queued c.in_err-insert.ensures.unchanged c.reserve.ensures.items c.self.invariant

pub invariant_of-self-2 : goal.invariant_of-self-2
invariant_of-self-2 c =
    kept-grown c.self.inside.counts c.insert.new.self c.self.inside.standing.items c.push_back_reserved.new.self.items c.self.inside.queued (record { owner = c.args.owner; name = c.args.name }) c.count_of-before.result
    c.count_of-before.ensures.counted c.in_ok-insert.ensures.put (c.push_back_reserved.ensures.items ∙ ap (λ l. l ++ record { owner = c.args.owner; name = c.args.name } ∷ []) c.reserve.ensures.items) c.self.invariant

pub returns-clause-queued : goal.returns-clause-queued
returns-clause-queued c =
    shown-grown c.self.inside.counts c.insert.new.self c.self.inside.standing.items c.push_back_reserved.new.self.items c.self.inside.queued (record { owner = c.args.owner; name = c.args.name }) c.count_of-before.result
    c.count_of-before.ensures.counted c.in_ok-insert.ensures.put (c.push_back_reserved.ensures.items ∙ ap (λ l. l ++ record { owner = c.args.owner; name = c.args.name } ∷ []) c.reserve.ensures.items) c.self.invariant
    ∙ ap (λ l. l ++ record { owner = c.args.owner; name = c.args.name } ∷ []) c.self.view_is
