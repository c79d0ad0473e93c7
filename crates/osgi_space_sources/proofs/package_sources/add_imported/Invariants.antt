-- The providers of the wires so far were added.
use Rattle.std.proofs.Common.{◌≡◌, take}
use Rattle.osgi_space_sources.specs.computed.Adds.{Adds}
use Rattle.osgi_space_sources.specs.declared.given.Given.{Given}
use Rattle.osgi_space_sources.specs.laws.Adding.{Each}
use Rattle.osgi_space_rows.specs.declared.rows.Import.{Import}
use Rattle.osgi_space_sources.proofs.package_sources.add_imported.Given as goal

abbrev pub invariant-loop-row : goal.invariant-loop-row
invariant-loop-row l = Adds (Each (λ (row : Import) (g : Given). g ≡ record { «package» = l.«package»; source = row.provider }) (take l.row-index l.imports)) l.fn.givens.items l.givens.items
