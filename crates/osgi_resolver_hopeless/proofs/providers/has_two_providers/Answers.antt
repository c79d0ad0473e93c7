-- The next wire, and the first that differs from the first one for its package.
use Rattle.std.proofs.Common.{Any, sym, subst}
use Rattle.std.proofs.lemmas.List.{get_or_default}
use Rattle.osgi_space_rules.proofs.OneValue.{not_true}
use Rattle.osgi_resolver_hopeless.proofs.Answering.{no, yes}
use Rattle.osgi_resolver_hopeless.proofs.TwoProviders.{Differs, few-same, some-differs}
use Rattle.osgi_space_sources.specs.laws.Adding.{any-at, none-more, none-whole}
use Rattle.osgi_resolver_hopeless.proofs.providers.has_two_providers.Goals as goal

pub returns-then-imports-lt2 : goal.returns-then-imports-lt2
returns-then-imports-lt2 c = record { two = no (few-same c.args.rows.now c.args.revision c.of_revision-imports.result.now c.of_revision-imports.ensures.rows c.if-imports-lt2.true) }

pub loop-row-preserved : goal.loop-row-preserved
loop-row-preserved c =
    let rows = c.of_revision-imports.result.now in
    let i = c.loop-row.row-index in
    let within = c.loop-row-test.true in
    none-more (Differs c.args.rows.now c.args.revision) rows i _ within (get_or_default rows i _ _ within) c.loop-row.invariant (λ d. not_true _ c.if-first_differs.false (c.first_differs.ensures.differs.1 d))

pub returns-then-first_differs : goal.returns-then-first_differs
returns-then-first_differs c =
    let rows = c.of_revision-imports.result.now in
    let i = c.loop-row.row-index in
    let within = c.loop-row-test.true in
    let Q = Differs c.args.rows.now c.args.revision in
    let any : Any Q rows = any-at Q rows i _ within (get_or_default rows i _ _ within) (c.first_differs.ensures.differs.0 c.if-first_differs.true) in
    record { two = yes ((some-differs c.args.rows.now c.args.revision).0 (subst (λ xs. Any Q xs) c.of_revision-imports.ensures.rows any)) }

pub returns : goal.returns
returns c =
    let rows = c.of_revision-imports.result.now in
    let Q = Differs c.args.rows.now c.args.revision in
    let none : ¬ Any Q rows = none-whole Q rows c.loop-row.row-index c.loop-row-test.false c.loop-row.invariant in
    record { two = no (λ two. none (subst (λ xs. Any Q xs) (sym c.of_revision-imports.ensures.rows) ((some-differs c.args.rows.now c.args.revision).1 two))) }
