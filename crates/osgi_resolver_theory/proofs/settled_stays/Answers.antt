-- The fact, from what the definitions give.
use Rattle.osgi_resolver_theory.proofs.Facts.{settled_stays}
use Rattle.osgi_resolver_theory.proofs.settled_stays.Goals as goal

pub returns : goal.returns
returns c = settled_stays
