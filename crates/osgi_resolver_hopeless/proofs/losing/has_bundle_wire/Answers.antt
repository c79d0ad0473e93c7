-- The next bundle wire of the revision, and the first that goes to the bundle.
use Rattle.std.proofs.Common.{◌≡◌, Any, List, sym, subst}
use Rattle.std.proofs.lemmas.List.{get_or_default}
use Rattle.osgi_resolver_hopeless.proofs.Answering.{no, yes}
use Rattle.osgi_space_sources.proofs.Rows.{requires-each}
use Rattle.osgi_space_sources.specs.laws.Adding.{any-at, none-more, none-whole}
use Rattle.osgi_space_rows.specs.declared.rows.Required.{Required}
use Rattle.osgi_resolver_hopeless.proofs.losing.has_bundle_wire.Goals as goal

pub loop-row-preserved : goal.loop-row-preserved
loop-row-preserved c =
    let rows = c.of-row-items.result.now in
    let i = c.loop-row.row-index in
    let within = c.loop-row-test.true in
    none-more (λ (row : Required). c.args.bundle ≡ row.provider) rows i _ within (get_or_default rows i _ _ within) c.loop-row.invariant (λ e. c.if-row-bundle.false (sym e))

pub returns-then-row-bundle : goal.returns-then-row-bundle
returns-then-row-bundle c =
    let rows = c.of-row-items.result.now in
    let i = c.loop-row.row-index in
    let within = c.loop-row-test.true in
    let Q : Required → Type 0 = λ row. c.args.bundle ≡ row.provider in
    let any : Any Q rows = any-at Q rows i _ within (get_or_default rows i _ _ within) (sym c.if-row-bundle.true) in
    record { wire = yes ((requires-each c.args.rows.now c.args.revision c.args.bundle).0 (subst (λ (xs : List Required). Any Q xs) c.of-row-items.ensures.rows any)) }

pub returns : goal.returns
returns c =
    let rows = c.of-row-items.result.now in
    let Q : Required → Type 0 = λ row. c.args.bundle ≡ row.provider in
    let none : ¬ Any Q rows = none-whole Q rows c.loop-row.row-index c.loop-row-test.false c.loop-row.invariant in
    record { wire = no (λ at. none (subst (λ (xs : List Required). Any Q xs) (sym c.of-row-items.ensures.rows) ((requires-each c.args.rows.now c.args.revision c.args.bundle).1 at))) }
