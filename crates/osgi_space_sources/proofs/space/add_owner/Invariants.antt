-- What the bundle gives of the packages so far was added.
use Rattle.std.proofs.Common.{take}
use Rattle.osgi_space_sources.specs.computed.Adds.{Adds}
use Rattle.osgi_space_sources.specs.computed.Givens.{IsGivenOf}
use Rattle.osgi_space_sources.specs.declared.given.Given.{Given}
use Rattle.osgi_space_sources.specs.laws.Adding.{Each}
use Rattle.osgi_space_rows.specs.declared.rows.Export.{Export}
use Rattle.osgi_space_sources.proofs.space.add_owner.Given as goal

abbrev pub invariant-loop-row : goal.invariant-loop-row
invariant-loop-row l = Adds (Each (λ (row : Export) (g : Given). IsGivenOf l.rows l.revision l.bundle row.exported g) (take l.row-index l.row-items)) l.fn.givens.items l.givens.items
