-- The look-up has the wires for the package.
use Rattle.std.proofs.Common.{◌≢◌, Any, refl, sym, subst}
use Rattle.std.proofs.lemmas.Bool.{false≢true}
use Rattle.std.proofs.lemmas.List.{get_or_default}
use Rattle.osgi_space_sources.specs.laws.Adding.{any-at, none-more, none-whole}
use Rattle.osgi_space_sources.proofs.Rows.{some-import}
use Rattle.osgi_space_rows.specs.declared.rows.Import.{Import}
use Rattle.osgi_space_sources.proofs.package_sources.imports_elsewhere.Goals as goal

pub returns-then-row-revision : goal.returns-then-row-revision
returns-then-row-revision c =
    let rows = c.of-row-items.result.now in
    let P : Import → Type 0 = λ row. row.provider ≢ c.args.revision in
    let at = get_or_default rows c.loop-row.row-index _ _ c.loop-row-test.true in
    let any : Any P rows = any-at P rows c.loop-row.row-index _ c.loop-row-test.true at c.if-row-revision.true in
    record { elsewhere = (λ t. (some-import c.args.rows.now (λ x. x ≢ c.args.revision) c.args.revision c.args.package).0 (subst (λ xs. Any P xs) c.of-row-items.ensures.rows any), λ e. refl) }

pub loop-row-preserved : goal.loop-row-preserved
loop-row-preserved c =
    let rows = c.of-row-items.result.now in
    let at = get_or_default rows c.loop-row.row-index _ _ c.loop-row-test.true in
    none-more (λ (row : Import). row.provider ≢ c.args.revision) rows c.loop-row.row-index _ c.loop-row-test.true at c.loop-row.invariant (λ x. x c.if-row-revision.false)

pub returns : goal.returns
returns c =
    let rows = c.of-row-items.result.now in
    let P : Import → Type 0 = λ row. row.provider ≢ c.args.revision in
    let none : ¬ Any P rows = none-whole P rows c.loop-row.row-index c.loop-row-test.false c.loop-row.invariant in
    record {
      elsewhere = (
        λ t. absurd (false≢true t),
        λ e. absurd (none (subst (λ xs. Any P xs) (sym c.of-row-items.ensures.rows) ((some-import c.args.rows.now (λ x. x ≢ c.args.revision) c.args.revision c.args.package).1 e))),
      );
    }
