-- The fact, from what the definitions give.
use Rattle.osgi_resolver_theory.proofs.Reasons.{joined_lack}
use Rattle.osgi_resolver_theory.proofs.onward.joined_lack.Goals as goal

pub returns : goal.returns
returns c = joined_lack
