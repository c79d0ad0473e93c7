-- The fact, from what the definitions give.
use Rattle.osgi_resolver_theory.proofs.Reasons.{quiet_while_undecided}
use Rattle.osgi_resolver_theory.proofs.onward.quiet_while_undecided.Goals as goal

pub returns : goal.returns
returns c = quiet_while_undecided
