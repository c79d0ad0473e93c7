-- The fact, from what the definitions give.
use Rattle.osgi_resolver_theory.proofs.Reasons.{clashes_lead_to_host}
use Rattle.osgi_resolver_theory.proofs.onward.clashes_lead_to_host.Goals as goal

pub returns : goal.returns
returns c = clashes_lead_to_host
