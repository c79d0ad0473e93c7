-- No service is registered.
use Rattle.std.proofs.Common.{◌≡◌}
use Rattle.cases_registry.proofs.uses.take_back.Given as goal

abbrev pub invariant-loop-uses : goal.invariant-loop-uses
invariant-loop-uses l = l.registry.issued ≡ l.fn.registry.issued
