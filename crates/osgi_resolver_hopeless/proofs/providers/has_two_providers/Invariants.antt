-- None of the wires so far goes to another provider than the first one for its package.
use Rattle.std.proofs.Common.{Any, take}
use Rattle.osgi_resolver_hopeless.proofs.TwoProviders.{Differs}
use Rattle.osgi_resolver_hopeless.proofs.providers.has_two_providers.Given as goal

abbrev pub invariant-loop-row : goal.invariant-loop-row
invariant-loop-row l = ¬ Any (Differs l.rows l.revision) (take l.row-index l.imports)
