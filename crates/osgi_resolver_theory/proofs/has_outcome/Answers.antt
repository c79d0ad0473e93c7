-- The fact, from what the definitions give.
use Rattle.osgi_resolver_theory.proofs.Depth.{outcome}
use Rattle.osgi_resolver_theory.proofs.has_outcome.Goals as goal

pub returns : goal.returns
returns c = outcome
