-- The one at the front is dropped, and the same are queued.
use Rattle.std.proofs.Common.{◌++◌, Some, arith, refl, sym, ap, ◌∙◌}
use Rattle.std.specs.Option.{option_to_list}
use Rattle.osgi_jobs.proofs.Standings.{dropped-same}
use Rattle.osgi_jobs.proofs.jobs.drop_front.Goals as goal

pub returns-clause-queued : goal.returns-clause-queued
returns-clause-queued c =
    let first = c.pop_front.ensures.items ∙ ap (λ o. option_to_list o ++ c.pop_front.new.self.items) (c.pop_front.ensures.value c.in-Some.job.now (c.in-Some.ensures.variant.0 refl) ∙ ap Some (sym c.in-Some.ensures.lookup)) in
    dropped-same c.args.counts.now c.recount.new.counts c.args.standing.now.items c.pop_front.new.self.items c.in-Some.job.now c.count_of-before.result first c.count_of-before.ensures.counted c.requires.counted
    (let some = c.if-before-eq0.false in omega (arith, some)) c.recount.ensures.counted
