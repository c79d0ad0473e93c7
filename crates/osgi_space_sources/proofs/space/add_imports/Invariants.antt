-- The packages of the wires so far were added with their providers.
use Rattle.std.proofs.Common.{◌≡◌, take}
use Rattle.osgi_space_sources.specs.computed.Adds.{Adds}
use Rattle.osgi_space_sources.specs.declared.given.Given.{Given}
use Rattle.osgi_space_sources.specs.laws.Adding.{Each}
use Rattle.osgi_space_rows.specs.declared.rows.Import.{Import}
use Rattle.osgi_space_sources.proofs.space.add_imports.Given as goal

abbrev pub invariant-loop-row : goal.invariant-loop-row
invariant-loop-row l = Adds (Each (λ (row : Import) (g : Given). g ≡ record { «package» = row.imported; source = row.provider }) (take l.row-index l.row-items)) l.fn.givens.items l.givens.items
