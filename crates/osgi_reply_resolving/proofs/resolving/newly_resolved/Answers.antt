-- What is found of the added wirings is what the rows list, and each bundle that is listed is installed.
use Rattle.osgi_reply_resolving.proofs.Newly.{listed_ok}
use Rattle.osgi_reply_resolving.proofs.Rows.{settable_ok}
use Rattle.osgi_reply_resolving.proofs.resolving.newly_resolved.Goals as goal

pub returns-clause-listed : goal.returns-clause-listed
returns-clause-listed c = listed_ok c.args.wirings.now.world c.args.wirings.now.issued c.args.bundles.now c.args.added.now c.in_ok-numbers.numbers c.in_order.result c.requires.holds c.rows.ensures.in_order c.in_order.ensures.ordered c.in_ok-numbers.ensures.numbers c.in_order.ensures.bundles

pub returns-clause-settable : goal.returns-clause-settable
returns-clause-settable c = settable_ok c.args.wirings.now.world c.args.added.now c.args.bundles.now c.in_order.result c.rows.ensures.in_order (returns-clause-listed c)
