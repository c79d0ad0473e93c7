-- The fact, from what the definitions give.
use Rattle.osgi_resolver_theory.proofs.Facts.{hopeless_stays}
use Rattle.osgi_resolver_theory.proofs.hopeless_stays.Goals as goal

pub returns : goal.returns
returns c = hopeless_stays
