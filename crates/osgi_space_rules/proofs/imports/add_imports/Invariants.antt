-- What was there, and the entries of the wires so far.
use Rattle.std.proofs.Common.{take}
use Rattle.osgi_space_rules.specs.computed.Entries.{IsImport}
use Rattle.osgi_space_rules.specs.computed.Growing.{Grows, HasEntry}
use Rattle.osgi_space_rules.specs.computed.Keys.{package_cmp}
use Rattle.osgi_space_rules.proofs.imports.add_imports.Given as goal

abbrev pub invariant-loop-wire : goal.invariant-loop-wire
invariant-loop-wire l = Grows (HasEntry package_cmp l.initial.providers) (HasEntry package_cmp l.providers) (λ wire e. IsImport l.known l.wiring.revision wire e) (take l.wire-index l.wire-items)
