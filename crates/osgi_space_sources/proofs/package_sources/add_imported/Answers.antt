-- One source for each wire.
use Rattle.std.proofs.Common.{◌≡◌, ℕ}
use Rattle.std.proofs.lemmas.List.{get_or_default}
use Rattle.osgi_space_sources.specs.declared.given.Given.{Given}
use Rattle.osgi_space_sources.specs.laws.Adding.{adds-more, adds-whole, adds-push}
use Rattle.osgi_space_rows.specs.declared.rows.Import.{Import}
use Rattle.osgi_space_sources.proofs.package_sources.add_imported.Goals as goal

abbrev gives : ℕ → Import → Given → Type 0
gives p row g = g ≡ record { «package» = p; source = row.provider }

pub loop-row-preserved : goal.loop-row-preserved
loop-row-preserved c =
    let at = get_or_default c.args.imports.now c.loop-row.row-index _ _ c.loop-row-test.true in
    rw c.in_ok-push.ensures.items (adds-more (gives c.args.package) c.args.imports.now c.loop-row.row-index _ c.loop-row-test.true at c.loop-row.invariant (adds-push c.loop-row.givens.items _))

pub returns : goal.returns
returns c = record { added = adds-whole (gives c.args.package) c.args.imports.now c.loop-row.row-index c.loop-row-test.false c.loop-row.invariant }
