-- Those of the bundle are counted as cleaned, and those of them at the front are dropped.
use Rattle.std.proofs.Common.{◌-◌, map, arith, sym, ap, ◌∙◌}
use Rattle.std.specs.Prelude.{◌==◌, not, filter}
use Rattle.osgi_jobs.specs.Queue.{queued_of}
use Rattle.osgi_jobs.specs.computed.Kept.{counted_in, queued_in}
use Rattle.osgi_jobs.proofs.Counting.{shown-stays}
use Rattle.osgi_jobs.proofs.Standings.{cleared-number, cleared-queued, fewer-queued, kept-after, queued-none}
use Rattle.osgi_ops.specs.Jobs.{Queued}
use Rattle.osgi_jobs.proofs.jobs.Jobs.clear.Goals as goal

pub returns-then-before-eq0 : goal.returns-then-before-eq0
returns-then-before-eq0 c =
    let none = ap (λ s. s.standing) (sym c.count_of-before.ensures.counted) ∙ c.if-before-eq0.true in
    record {
      cleared = sym c.self.view_is
          ∙ ap (map queued_of) (sym (queued-none (counted_in c.self.inside.counts) c.self.inside.standing.items c.self.inside.queued c.self.invariant c.args.owner.0 none))
          ∙ shown-stays c.args.owner.0 (queued_in (counted_in c.self.inside.counts) c.self.inside.standing.items)
          ∙ ap (filter (λ (q : Queued). not (c.args.owner.0 == q.owner.0))) c.self.view_is;
    }

pub overflow_sub-self-2 : goal.overflow_sub-self-2
overflow_sub-self-2 c =
    let most = fewer-queued (counted_in c.self.inside.counts) c.self.inside.standing.items c.self.inside.queued c.self.invariant c.args.owner.0 in
    let standing = ap (λ s. s.standing) c.count_of-before.ensures.counted in
    let cleaned = ap (λ s. s.cleaned) c.count_of-before.ensures.counted in
    omega (arith, most, standing, cleaned)

pub invariant_of-self : goal.invariant_of-self
invariant_of-self c =
    kept-after (counted_in c.drop_cleaned.new.counts) c.drop_cleaned.new.standing.items (c.self.inside.queued - (c.count_of-before.result.standing - c.count_of-before.result.cleaned)) _ c.drop_cleaned.ensures.counted c.drop_cleaned.ensures.queued c.drop_cleaned.ensures.front
    (cleared-number c.self.inside.counts c.recount.new.counts c.self.inside.standing.items c.self.inside.queued c.args.owner.0 c.count_of-before.result c.count_of-before.ensures.counted c.self.invariant c.recount.ensures.counted)

pub returns : goal.returns
returns c = record {
  cleared = ap (map queued_of) (c.drop_cleaned.ensures.queued
      ∙ cleared-queued c.self.inside.counts c.recount.new.counts c.self.inside.standing.items c.self.inside.queued c.args.owner.0 c.count_of-before.result c.count_of-before.ensures.counted c.self.invariant c.recount.ensures.counted)
      ∙ shown-stays c.args.owner.0 (queued_in (counted_in c.self.inside.counts) c.self.inside.standing.items)
      ∙ ap (filter (λ (q : Queued). not (c.args.owner.0 == q.owner.0))) c.self.view_is;
}
