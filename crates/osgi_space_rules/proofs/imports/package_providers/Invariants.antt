-- The entries of the wirings so far.
use Rattle.std.proofs.Common.{take}
use Rattle.osgi_space_rules.specs.computed.Entries.{IsImport}
use Rattle.osgi_space_rules.specs.computed.Growing.{Grows, HasEntry, Nothing, AnyOf}
use Rattle.osgi_space_rules.specs.computed.Keys.{package_cmp}
use Rattle.osgi_space_rules.proofs.imports.package_providers.Given as goal

abbrev pub invariant-loop-wiring : goal.invariant-loop-wiring
invariant-loop-wiring l = Grows Nothing (HasEntry package_cmp l.providers) (λ wiring e. AnyOf (λ wire. IsImport l.known wiring.revision wire e) wiring.wires) (take l.wiring-index l.wirings)
