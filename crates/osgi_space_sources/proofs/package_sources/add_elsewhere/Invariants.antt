-- Of the wires so far, the providers that are not the bundle itself were added.
use Rattle.std.proofs.Common.{◌≡◌, ◌≢◌, take}
use Rattle.osgi_space_sources.specs.computed.Adds.{Adds}
use Rattle.osgi_space_sources.specs.declared.given.Given.{Given}
use Rattle.osgi_space_sources.specs.laws.Adding.{Each}
use Rattle.osgi_space_rows.specs.declared.rows.Import.{Import}
use Rattle.osgi_space_sources.proofs.package_sources.add_elsewhere.Given as goal

abbrev pub invariant-loop-row : goal.invariant-loop-row
invariant-loop-row l = Adds (Each (λ (row : Import) (g : Given). (row.provider ≢ l.bundle) × (g ≡ record { «package» = l.«package»; source = row.provider })) (take l.row-index l.row-items)) l.fn.givens.items l.givens.items
