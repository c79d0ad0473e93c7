-- One of the fragments, or none.
use Rattle.std.proofs.Common.{◌≡◌, refl, sym, subst, Any}
use Rattle.std.proofs.lemmas.List.{get_or_default}
use Rattle.osgi_space_sources.specs.laws.Adding.{any-at, none-more, none-whole}
use Rattle.osgi_space_sources.proofs.Rows.{some-attached}
use Rattle.osgi_resolver_hopeless.proofs.Answering.{no, yes}
use Rattle.osgi_space_rows.specs.Rows.{Attaches}
use Rattle.osgi_space_rows.specs.declared.rows.Attachment.{Attachment}
use Rattle.osgi_resolver_hopeless.proofs.offer.is_attached.Goals as goal

pub loop-row-preserved : goal.loop-row-preserved
loop-row-preserved c =
    let rows = c.of-row-items.result.now in
    let i = c.loop-row.row-index in
    let within = c.loop-row-test.true in
    none-more (λ (row : Attachment). row.fragment ≡ c.args.fragment) rows i _ within (get_or_default rows i _ _ within) c.loop-row.invariant c.if-row-fragment.false

pub returns-then-row-fragment : goal.returns-then-row-fragment
returns-then-row-fragment c =
    let R = c.args.rows.now in
    let rows = c.of-row-items.result.now in
    let i = c.loop-row.row-index in
    let within = c.loop-row-test.true in
    let Q : Attachment → Type 0 = λ row. row.fragment ≡ c.args.fragment in
    let any : Any Q rows = any-at Q rows i _ within (get_or_default rows i _ _ within) c.if-row-fragment.true in
    let some = (some-attached R (λ f. f ≡ c.args.fragment) c.args.host).0 (subst (λ xs. Any Q xs) c.of-row-items.ensures.rows any) in
    record { attached = yes (subst (Attaches R c.args.host) some.2 some.1) }

pub returns : goal.returns
returns c =
    let R = c.args.rows.now in
    let rows = c.of-row-items.result.now in
    let Q : Attachment → Type 0 = λ row. row.fragment ≡ c.args.fragment in
    let none : ¬ Any Q rows = none-whole Q rows c.loop-row.row-index c.loop-row-test.false c.loop-row.invariant in
    record { attached = no (λ a. none (subst (λ xs. Any Q xs) (sym c.of-row-items.ensures.rows) ((some-attached R (λ f. f ≡ c.args.fragment) c.args.host).1 (c.args.fragment, a, refl)))) }
