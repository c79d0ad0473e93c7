-- No service is registered.
use Rattle.std.proofs.Common.{◌≡◌}
use Rattle.cases_registry.proofs.scanned.add_uses.Given as goal

abbrev pub invariant-loop-place : goal.invariant-loop-place
invariant-loop-place l = l.registry.issued ≡ l.fn.registry.issued
