-- What the rows so far use was added, as the exporter sees it.
use Rattle.std.proofs.Common.{◌≡◌, take}
use Rattle.osgi_space_sources.specs.computed.Adds.{Adds}
use Rattle.osgi_space_sources.specs.declared.given.Given.{Given}
use Rattle.osgi_space_sources.specs.laws.Adding.{Each}
use Rattle.osgi_space_rows.specs.declared.rows.Use.{Use}
use Rattle.osgi_space_sources.proofs.constraints.add_own_uses.Given as goal

abbrev pub invariant-loop-row : goal.invariant-loop-row
invariant-loop-row l = Adds (Each (λ (row : Use) (g : Given). g ≡ record { «package» = row.used; source = l.exporter }) (take l.row-index l.row-items)) l.fn.found l.found
