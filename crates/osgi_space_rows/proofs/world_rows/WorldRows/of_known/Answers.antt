-- Of nothing there are no rows, and all that is known is added.
use Rattle.std.proofs.Common.{[]}
use Rattle.osgi_space_rows.proofs.MoreKnown.{nothing-all_known, nothing-known}
use Rattle.osgi_space_rows.proofs.world_rows.WorldRows.of_known.Goals as goal

pub returns-clause-rows : goal.returns-clause-rows
returns-clause-rows c = (c.in_ok-of_more.ensures.added [] nothing-all_known (nothing-known c.new.result c.new.ensures.no_names c.new.ensures.no_rows)).rows
