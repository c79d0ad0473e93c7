-- One source for each wire to another revision.
use Rattle.std.proofs.Common.{◌≡◌, ◌≢◌, ◌↔◌, ℕ, List, ap, sym, ◌∙◌, subst}
use Rattle.std.proofs.lemmas.List.{get_or_default}
use Rattle.osgi_space_sources.specs.computed.Adds.{Adds}
use Rattle.osgi_space_sources.specs.computed.Givens.{IsElsewhere}
use Rattle.osgi_space_sources.specs.declared.given.Given.{Given}
use Rattle.osgi_space_sources.specs.laws.Adding.{Each, adds-more, adds-whole, adds-same, adds-nothing, adds-push}
use Rattle.osgi_space_sources.proofs.Rows.{some-import}
use Rattle.osgi_space_rows.specs.Rows.{RowLists, Imports, imports_for}
use Rattle.osgi_space_rows.specs.declared.rows.Import.{Import}
use Rattle.osgi_space_sources.proofs.package_sources.add_elsewhere.Goals as goal
use Rattle.osgi_space_sources.proofs.package_sources.add_elsewhere.Goals.{then-row-bundle+in_ok-push, else-row-bundle}

abbrev gives : ℕ → ℕ → Import → Given → Type 0
gives b p row g = (row.provider ≢ b) × (g ≡ record { «package» = p; source = row.provider })

pub loop-row-preserved : goal.loop-row-preserved
loop-row-preserved c =
    let rows = c.of-row-items.result.now in
    let P = gives c.args.bundle c.args.package in
    let at = get_or_default rows c.loop-row.row-index _ _ c.loop-row-test.true in
    let old = c.loop-row.givens.items in
    elim c.if-row-bundle.branch [
      | then-row-bundle+in_ok-push w ↦ rw (w.givens-is, w.in_ok-push.ensures.items) (adds-more P rows c.loop-row.row-index _ c.loop-row-test.true at c.loop-row.invariant (adds-same (λ t. (λ e. (w.if-row-bundle.true, e), λ both. both.1)) (adds-push old _)))
      | else-row-bundle w ↦ rw w.givens-is (adds-more P rows c.loop-row.row-index _ c.loop-row-test.true at c.loop-row.invariant (adds-nothing _ old (λ t both. both.0 w.if-row-bundle.false)))
    ]

elsewhere-each : (R : RowLists) (b p : ℕ) (g : Given) → Each (gives b p) (imports_for R b p) g ↔ IsElsewhere R b p g
elsewhere-each R b p g =
    let some = some-import R (λ x. (x ≢ b) × (g ≡ record { «package» = p; source = x })) b p in (
      λ any. let s = some.0 any in
          let e = sym (ap (λ (h : Given). h.source) s.2.1) in
          (ap (λ (h : Given). h.package) s.2.1, subst (λ x. Imports R b p x) e s.1, λ same. s.2.0 (e ∙ same)),
      λ (named, at, other). some.1 (g.source, at, (other, λ i. record { «package» = named i; source = g.source })),
    )

pub returns : goal.returns
returns c =
    let rows = c.of-row-items.result.now in
    let P : List Import → Type 0 = λ xs. Adds (Each (gives c.args.bundle c.args.package) xs) c.args.givens.now.items c.loop-row.givens.items in
    record {
      added = adds-same (elsewhere-each c.args.rows.now c.args.bundle c.args.package)
          (subst P c.of-row-items.ensures.rows (adds-whole (gives c.args.bundle c.args.package) rows c.loop-row.row-index c.loop-row-test.false c.loop-row.invariant));
    }
