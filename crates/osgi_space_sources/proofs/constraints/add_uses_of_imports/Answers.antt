-- The uses of each provider from which constraints may come.
use Rattle.std.proofs.Common.{ℕ}
use Rattle.std.proofs.lemmas.List.{get_or_default}
use Rattle.osgi_space_sources.specs.computed.Amongst.{IsAmong}
use Rattle.osgi_space_sources.specs.computed.Pairs.{IsUseAmong}
use Rattle.osgi_space_sources.specs.declared.given.Given.{Given}
use Rattle.osgi_space_sources.specs.laws.Adding.{adds-more, adds-whole}
use Rattle.osgi_space_rows.specs.Rows.{RowLists}
use Rattle.osgi_space_rows.specs.declared.rows.Import.{Import}
use Rattle.osgi_space_sources.proofs.constraints.add_uses_of_imports.Goals as goal

abbrev gives : RowLists → (ℕ → Type 0) → Import → Given → Type 0
gives R A row g = IsUseAmong R A (record { «package» = row.imported; source = row.provider }) g

pub loop-row-preserved : goal.loop-row-preserved
loop-row-preserved c =
    let imports = c.args.imports.now in
    let at = get_or_default imports c.loop-row.row-index _ _ c.loop-row-test.true in
    adds-more (gives c.args.rows.now (IsAmong c.args.among)) imports c.loop-row.row-index _ c.loop-row-test.true at c.loop-row.invariant c.in_ok-add_uses_among.ensures.added

pub returns : goal.returns
returns c = record { added = adds-whole (gives c.args.rows.now (IsAmong c.args.among)) c.args.imports.now c.loop-row.row-index c.loop-row-test.false c.loop-row.invariant }
