-- As many uses as were taken, at most; and no service is registered.
use Rattle.std.proofs.Common.{◌≡◌, ◌≤◌}
use Rattle.osgi_registry.specs.Rows.{use_count}
use Rattle.cases_registry.proofs.uses.take.Given as goal

abbrev pub invariant-loop : goal.invariant-loop
invariant-loop l = (use_count l.user l.service l.registry.rows ≤ l.counter) × (l.registry.issued ≡ l.fn.registry.issued)
