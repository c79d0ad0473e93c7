-- The fact, from what the definitions give.
use Rattle.osgi_resolver_theory.proofs.Reasons.{only_touched_are_stuck}
use Rattle.osgi_resolver_theory.proofs.onward.only_touched_are_stuck.Goals as goal

pub returns : goal.returns
returns c = only_touched_are_stuck
