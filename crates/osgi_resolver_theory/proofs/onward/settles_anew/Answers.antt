-- The fact, from what the definitions give.
use Rattle.osgi_resolver_theory.proofs.Reasons.{settles_anew}
use Rattle.osgi_resolver_theory.proofs.onward.settles_anew.Goals as goal

pub returns : goal.returns
returns c = settles_anew
