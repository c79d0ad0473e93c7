-- The fact, from what the definitions give.
use Rattle.osgi_resolver_theory.proofs.Ordered.{first-ordered}
use Rattle.osgi_resolver_theory.proofs.stands_in_order.Goals as goal

pub returns : goal.returns
returns c world b P w p first = first-ordered world b P w p
