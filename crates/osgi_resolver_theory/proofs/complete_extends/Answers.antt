-- The fact, from what the definitions give.
use Rattle.osgi_resolver_theory.proofs.Facts.{complete_extends}
use Rattle.osgi_resolver_theory.proofs.complete_extends.Goals as goal

pub returns : goal.returns
returns c = complete_extends
