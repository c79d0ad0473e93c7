-- The answer is true at the first wire for a disputed package.
use Rattle.std.proofs.Common.{Any, refl}
use Rattle.std.proofs.lemmas.Bool.{false≢true}
use Rattle.std.proofs.lemmas.List.{get_or_default}
use Rattle.osgi_space_sources.specs.computed.Disputes.{IsDisputed}
use Rattle.osgi_space_rows.specs.declared.rows.Import.{Import}
use Rattle.osgi_space_sources.specs.laws.Adding.{any-at, none-more, none-whole}
use Rattle.osgi_space_sources.proofs.uses.has_disputed_import.Goals as goal

pub returns-then-has : goal.returns-then-has
returns-then-has c =
    let P : Import → Type 0 = λ row. IsDisputed c.args.disputed.now row.imported in
    let imports = c.args.imports.now in
    let at = get_or_default imports c.loop-row.row-index _ _ c.loop-row-test.true in
    let any : Any P imports = any-at P imports c.loop-row.row-index _ c.loop-row-test.true at (c.has.ensures.has.0 c.if-has.true) in
    record { disputed = (λ t. any, λ a. refl) }

pub loop-row-preserved : goal.loop-row-preserved
loop-row-preserved c =
    let imports = c.args.imports.now in
    let at = get_or_default imports c.loop-row.row-index _ _ c.loop-row-test.true in
    none-more (λ (row : Import). IsDisputed c.args.disputed.now row.imported) imports c.loop-row.row-index _ c.loop-row-test.true at c.loop-row.invariant
    (λ t. let yes = c.has.ensures.has.1 t in let no = c.if-has.false in cc)

pub returns : goal.returns
returns c =
    let P : Import → Type 0 = λ row. IsDisputed c.args.disputed.now row.imported in
    let none : ¬ Any P c.args.imports.now = none-whole P c.args.imports.now c.loop-row.row-index c.loop-row-test.false c.loop-row.invariant in
    record { disputed = (λ t. absurd (false≢true t), λ any. absurd (none any)) }
