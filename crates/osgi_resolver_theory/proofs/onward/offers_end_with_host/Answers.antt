-- The fact, from what the definitions give.
use Rattle.osgi_resolver_theory.proofs.Reasons.{offers_end_with_host}
use Rattle.osgi_resolver_theory.proofs.onward.offers_end_with_host.Goals as goal

pub returns : goal.returns
returns c = offers_end_with_host
