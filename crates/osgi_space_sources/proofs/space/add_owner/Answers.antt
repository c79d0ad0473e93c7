-- What the bundle gives of each export of the owner.
use Rattle.std.proofs.Common.{ℕ, List, subst}
use Rattle.std.proofs.lemmas.List.{get_or_default}
use Rattle.osgi_space_sources.specs.computed.Adds.{Adds}
use Rattle.osgi_space_sources.specs.computed.Givens.{IsGivenOf}
use Rattle.osgi_space_sources.specs.declared.given.Given.{Given}
use Rattle.osgi_space_sources.specs.laws.Adding.{Each, adds-more, adds-whole, adds-same}
use Rattle.osgi_space_sources.proofs.Rows.{export-at, some-export}
use Rattle.osgi_space_rows.specs.Rows.{RowLists}
use Rattle.osgi_space_rows.specs.declared.rows.Export.{Export}
use Rattle.osgi_space_sources.proofs.space.add_owner.Goals as goal

abbrev gives : RowLists → ℕ → ℕ → Export → Given → Type 0
gives R r b row g = IsGivenOf R r b row.exported g

pub add_unless_imported-requires : goal.add_unless_imported-requires
add_unless_imported-requires c =
    let rows = c.of_revision-row-items.result.now in
    let at = get_or_default rows c.loop-row.row-index _ _ c.loop-row-test.true in
    record { exported = (c.args.owner, c.requires.owns, export-at c.args.rows.now c.args.owner rows c.loop-row.row-index _ c.of_revision-row-items.ensures.rows c.loop-row-test.true at) }

pub loop-row-preserved : goal.loop-row-preserved
loop-row-preserved c =
    let rows = c.of_revision-row-items.result.now in
    let at = get_or_default rows c.loop-row.row-index _ _ c.loop-row-test.true in
    adds-more (gives c.args.rows.now c.args.revision c.args.bundle) rows c.loop-row.row-index _ c.loop-row-test.true at c.loop-row.invariant c.in_ok-add_unless_imported.ensures.added

pub returns : goal.returns
returns c =
    let R = c.args.rows.now in
    let rows = c.of_revision-row-items.result.now in
    let P : List Export → Type 0 = λ xs. Adds (Each (gives R c.args.revision c.args.bundle) xs) c.args.givens.now.items c.loop-row.givens.items in
    record {
      added = adds-same (λ g. some-export R (λ p. IsGivenOf R c.args.revision c.args.bundle p g) c.args.owner)
          (subst P c.of_revision-row-items.ensures.rows (adds-whole (gives R c.args.revision c.args.bundle) rows c.loop-row.row-index c.loop-row-test.false c.loop-row.invariant));
    }
