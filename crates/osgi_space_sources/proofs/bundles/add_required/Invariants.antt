-- The providers of the rows so far were added.
use Rattle.std.proofs.Common.{◌≡◌, ℕ, take}
use Rattle.osgi_space_sources.specs.computed.Adds.{Adds}
use Rattle.osgi_space_sources.specs.laws.Adding.{Each}
use Rattle.osgi_space_rows.specs.declared.rows.Required.{Required}
use Rattle.osgi_space_sources.proofs.bundles.add_required.Given as goal

abbrev pub invariant-loop-row : goal.invariant-loop-row
invariant-loop-row l = Adds (Each (λ (row : Required) (t : ℕ). t ≡ row.provider) (take l.row-index l.row-items)) l.fn.found l.found
