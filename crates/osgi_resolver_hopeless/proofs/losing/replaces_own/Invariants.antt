-- None of the wires so far replaces an export of the revision.
use Rattle.std.proofs.Common.{Any, take}
use Rattle.osgi_resolver_hopeless.specs.computed.Losing.{IsReplacing}
use Rattle.osgi_resolver_hopeless.proofs.losing.replaces_own.Given as goal

abbrev pub invariant-loop-row : goal.invariant-loop-row
invariant-loop-row l = ¬ Any (IsReplacing l.rows l.revision) (take l.row-index l.imports)
