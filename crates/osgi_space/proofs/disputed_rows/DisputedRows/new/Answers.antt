-- What is possible in the first rows is noted.
use Rattle.std.proofs.Common.{subst}
use Rattle.osgi_space_sources.specs.computed.Disputes.{AreNoted}
use Rattle.osgi_space_rows.specs.Rows.{RowLists}
use Rattle.osgi_space.proofs.disputed_rows.DisputedRows.new.Goals as goal

pub invariant_of-result : goal.invariant_of-result
invariant_of-result c = subst (λ (R : RowLists). AreNoted R c.in_ok-possible.possible) c.rows.ensures.rows c.in_ok-possible.ensures.noted
