-- Of the rows so far, the providers of those with reexport were added.
use Rattle.std.proofs.Common.{◌≡◌, ℕ, take, IsTrue}
use Rattle.osgi_space_sources.specs.computed.Adds.{Adds}
use Rattle.osgi_space_sources.specs.laws.Adding.{Each}
use Rattle.osgi_space_rows.specs.declared.rows.Required.{Required}
use Rattle.osgi_space_sources.proofs.bundles.add_reexported.Given as goal

abbrev pub invariant-loop-row : goal.invariant-loop-row
invariant-loop-row l = Adds (Each (λ (row : Required) (t : ℕ). IsTrue row.reexport × (t ≡ row.provider)) (take l.row-index l.row-items)) l.fn.found l.found
