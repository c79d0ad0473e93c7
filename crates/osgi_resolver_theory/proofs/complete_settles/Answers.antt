-- The fact, from what the definitions give.
use Rattle.osgi_resolver_theory.proofs.Facts.{complete_settles}
use Rattle.osgi_resolver_theory.proofs.complete_settles.Goals as goal

pub returns : goal.returns
returns c = complete_settles
