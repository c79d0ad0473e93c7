-- The empty text reads as a range.
use Rattle.std.proofs.Common.{[], subst}
use Rattle.osgi_package.specs.computed.ImportReader.{IsRangeOf}
use Rattle.osgi_clause.proofs.ByClause.{nothing_readable}
use Rattle.osgi_clause.proofs.ranges.any_range.Goals as goal

pub returns-in-None : goal.returns-in-None
returns-in-None c =
    let unread = subst (IsRangeOf []) c.in-None.is c.in_ok-any.ensures.range in
    record { any = absurd (unread nothing_readable) }
