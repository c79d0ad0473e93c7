-- The next wire, and the first that goes to another provider.
use Rattle.std.proofs.Common.{◌≢◌}
use Rattle.std.proofs.lemmas.List.{get_or_default}
use Rattle.osgi_resolver_hopeless.proofs.Answering.{no, yes}
use Rattle.osgi_space_sources.specs.laws.Adding.{any-at, none-more, none-whole}
use Rattle.osgi_space_rows.specs.declared.rows.Import.{Import}
use Rattle.osgi_resolver_hopeless.proofs.providers.has_another.Goals as goal

pub loop-row-preserved : goal.loop-row-preserved
loop-row-preserved c =
    let rows = c.args.imports.now in
    let i = c.loop-row.row-index in
    let within = c.loop-row-test.true in
    none-more (λ (row : Import). row.provider ≢ c.args.provider) rows i _ within (get_or_default rows i _ _ within) c.loop-row.invariant (λ apart. apart c.if-row-provider.false)

pub returns-then-row-provider : goal.returns-then-row-provider
returns-then-row-provider c =
    let rows = c.args.imports.now in
    let i = c.loop-row.row-index in
    let within = c.loop-row-test.true in
    record { another = yes (any-at (λ (row : Import). row.provider ≢ c.args.provider) rows i _ within (get_or_default rows i _ _ within) c.if-row-provider.true) }

pub returns : goal.returns
returns c = record { another = no (none-whole (λ (row : Import). row.provider ≢ c.args.provider) c.args.imports.now c.loop-row.row-index c.loop-row-test.false c.loop-row.invariant) }
