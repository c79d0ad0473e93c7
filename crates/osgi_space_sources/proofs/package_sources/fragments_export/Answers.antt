-- The look-up has the fragments that are attached.
use Rattle.std.proofs.Common.{Any, refl, sym, subst}
use Rattle.std.proofs.lemmas.Bool.{false≢true}
use Rattle.std.proofs.lemmas.List.{get_or_default}
use Rattle.osgi_space_sources.specs.laws.Adding.{any-at, none-more, none-whole}
use Rattle.osgi_space_sources.proofs.Rows.{some-attached}
use Rattle.osgi_space_rows.specs.Rows.{OwnExport}
use Rattle.osgi_space_rows.specs.declared.rows.Attachment.{Attachment}
use Rattle.osgi_space_sources.proofs.package_sources.fragments_export.Goals as goal

pub returns-then-owns_export : goal.returns-then-owns_export
returns-then-owns_export c =
    let rows = c.of-row-items.result.now in
    let P : Attachment → Type 0 = λ row. OwnExport c.args.rows.now row.fragment c.args.package in
    let at = get_or_default rows c.loop-row.row-index _ _ c.loop-row-test.true in
    let any : Any P rows = any-at P rows c.loop-row.row-index _ c.loop-row-test.true at (c.if-owns_export.ensures.exports.0 refl) in
    record { exports = (λ t. (some-attached c.args.rows.now (λ f. OwnExport c.args.rows.now f c.args.package) c.args.revision).0 (subst (λ xs. Any P xs) c.of-row-items.ensures.rows any), λ e. refl) }

pub loop-row-preserved : goal.loop-row-preserved
loop-row-preserved c =
    let rows = c.of-row-items.result.now in
    let at = get_or_default rows c.loop-row.row-index _ _ c.loop-row-test.true in
    none-more (λ (row : Attachment). OwnExport c.args.rows.now row.fragment c.args.package) rows c.loop-row.row-index _ c.loop-row-test.true at c.loop-row.invariant (λ x. false≢true (c.if-owns_export.ensures.exports.1 x))

pub returns : goal.returns
returns c =
    let rows = c.of-row-items.result.now in
    let P : Attachment → Type 0 = λ row. OwnExport c.args.rows.now row.fragment c.args.package in
    let none : ¬ Any P rows = none-whole P rows c.loop-row.row-index c.loop-row-test.false c.loop-row.invariant in
    record {
      exports = (
        λ t. absurd (false≢true t),
        λ e. absurd (none (subst (λ xs. Any P xs) (sym c.of-row-items.ensures.rows) ((some-attached c.args.rows.now (λ f. OwnExport c.args.rows.now f c.args.package) c.args.revision).1 e))),
      );
    }
