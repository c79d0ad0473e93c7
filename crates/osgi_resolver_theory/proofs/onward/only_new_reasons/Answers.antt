-- The fact, from what the definitions give.
use Rattle.osgi_resolver_theory.proofs.Reasons.{only_new_reasons}
use Rattle.osgi_resolver_theory.proofs.onward.only_new_reasons.Goals as goal

pub returns : goal.returns
returns c = only_new_reasons
