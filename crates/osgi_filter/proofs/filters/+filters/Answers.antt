-- The levels that are left, and the operands by the reader on lists.
use Rattle.std.proofs.Common.{length, sym, ap, ◌∙◌, arith}
use Rattle.osgi_filter.specs.laws.Steps.{filter_at_none, filter_at_some}
use Rattle.osgi_filter.proofs.Operands.{listing_starts, listing_goes, listing_less}
use Rattle.osgi_filter.proofs.filters.+filters.Goals as goal

pub filter_at-returns-then-levels-eq0 : goal.filter_at-returns-then-levels-eq0
filter_at-returns-then-levels-eq0 t c = record { filter = rw c.if-levels-eq0.true (filter_at_none c.args.bytes.now) }

pub filter_at-returns : goal.filter_at-returns
filter_at-returns t c = record { filter = rw (filter_at_some c.args.levels c.args.bytes.now c.if-levels-eq0.false) c.level_at.ensures.filter }

pub operands_at-loop-rest-init : goal.operands_at-loop-rest-init
operands_at-loop-rest-init t c = rw (c.in_ok-filters.ensures.empty, c.skip-rest.ensures.rest) (listing_starts c.args.levels c.args.bytes.now)

pub operands_at-loop-rest-smaller : goal.operands_at-loop-rest-smaller
operands_at-loop-rest-smaller t c = omega (arith, ap length c.skip-rest-in-len1-up.ensures.rest, listing_less c.args.levels c.loop-rest.rest.now c.in_ok-one.one c.in_ok-one.remainder.now c.in_ok-one.ensures.filter)

pub operands_at-loop-rest-preserved : goal.operands_at-loop-rest-preserved
operands_at-loop-rest-preserved t c =
    rw (c.in_ok-push.ensures.added, c.skip-rest-in-len1-up.ensures.rest)
    (sym (listing_goes c.args.levels c.loop-rest.filters c.loop-rest.rest.now c.in_ok-one.one c.in_ok-one.remainder.now c.in-len1-up.len_at_least c.if-b-eq41.false c.in_ok-one.ensures.filter) ∙ c.loop-rest.invariant)
