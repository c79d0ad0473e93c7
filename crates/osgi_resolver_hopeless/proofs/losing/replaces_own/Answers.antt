-- The next wire, and the first that replaces an export of the revision.
use Rattle.std.proofs.Common.{Any, sym, subst}
use Rattle.std.proofs.lemmas.List.{get_or_default}
use Rattle.osgi_space_rules.proofs.OneValue.{not_true}
use Rattle.osgi_resolver_hopeless.proofs.Answering.{no, yes}
use Rattle.osgi_resolver_hopeless.proofs.Replacing.{some-replacing}
use Rattle.osgi_resolver_hopeless.specs.computed.Losing.{IsReplacing}
use Rattle.osgi_space_sources.specs.laws.Adding.{any-at, none-more, none-whole}
use Rattle.osgi_resolver_hopeless.proofs.losing.replaces_own.Goals as goal

pub loop-row-preserved : goal.loop-row-preserved
loop-row-preserved c =
    let rows = c.of_revision-imports.result.now in
    let i = c.loop-row.row-index in
    let within = c.loop-row-test.true in
    none-more (IsReplacing c.args.rows.now c.args.revision) rows i _ within (get_or_default rows i _ _ within) c.loop-row.invariant (λ d. not_true _ c.if-is_replacing.false (c.is_replacing.ensures.replacing.1 d))

pub returns-then-is_replacing : goal.returns-then-is_replacing
returns-then-is_replacing c =
    let rows = c.of_revision-imports.result.now in
    let i = c.loop-row.row-index in
    let within = c.loop-row-test.true in
    let Q = IsReplacing c.args.rows.now c.args.revision in
    let any : Any Q rows = any-at Q rows i _ within (get_or_default rows i _ _ within) (c.is_replacing.ensures.replacing.0 c.if-is_replacing.true) in
    record { replaces = yes ((some-replacing c.args.rows.now c.args.revision).0 (subst (λ xs. Any Q xs) c.of_revision-imports.ensures.rows any)) }

pub returns : goal.returns
returns c =
    let rows = c.of_revision-imports.result.now in
    let Q = IsReplacing c.args.rows.now c.args.revision in
    let none : ¬ Any Q rows = none-whole Q rows c.loop-row.row-index c.loop-row-test.false c.loop-row.invariant in
    record { replaces = no (λ own. none (subst (λ xs. Any Q xs) (sym c.of_revision-imports.ensures.rows) ((some-replacing c.args.rows.now c.args.revision).1 own))) }
