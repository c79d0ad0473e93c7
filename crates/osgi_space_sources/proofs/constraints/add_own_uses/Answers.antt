-- One constraint for each use.
use Rattle.std.proofs.Common.{◌≡◌, ◌↔◌, ℕ, List, ap, sym, subst}
use Rattle.std.proofs.lemmas.List.{get_or_default}
use Rattle.osgi_space_sources.specs.computed.Adds.{Adds}
use Rattle.osgi_space_sources.specs.computed.Pairs.{IsOwnUse}
use Rattle.osgi_space_sources.specs.declared.given.Given.{Given}
use Rattle.osgi_space_sources.specs.laws.Adding.{Each, adds-more, adds-whole, adds-same}
use Rattle.osgi_space_sources.proofs.Rows.{some-use}
use Rattle.osgi_space_rows.specs.Rows.{RowLists, OwnUse, uses_for}
use Rattle.osgi_space_rows.specs.declared.rows.Use.{Use}
use Rattle.osgi_space_sources.proofs.constraints.add_own_uses.Goals as goal

abbrev gives : ℕ → Use → Given → Type 0
gives e row g = g ≡ record { «package» = row.used; source = e }

pub loop-row-preserved : goal.loop-row-preserved
loop-row-preserved c =
    let rows = c.of-row-items.result.now in
    let at = get_or_default rows c.loop-row.row-index _ _ c.loop-row-test.true in
    adds-more (gives c.args.exporter) rows c.loop-row.row-index _ c.loop-row-test.true at c.loop-row.invariant c.in_ok-add.ensures.added

own-each : (R : RowLists) (e o p : ℕ) (g : Given) → Each (gives e) (uses_for R o p) g ↔ IsOwnUse R e o p g
own-each R e o p g =
    let some = some-use R (λ u. g ≡ record { «package» = u; source = e }) o p in (
      λ any. let s = some.0 any in
          (ap (λ (h : Given). h.source) s.2, subst (λ u. OwnUse R o p u) (sym (ap (λ (h : Given). h.package) s.2)) s.1),
      λ (same, at). some.1 (g.package, at, λ i. record { «package» = g.package; source = same i }),
    )

pub returns : goal.returns
returns c = record {
  added =
      let rows = c.of-row-items.result.now in
      let P : List Use → Type 0 = λ xs. Adds (Each (gives c.args.exporter) xs) c.args.found.now c.loop-row.found in
      adds-same (own-each c.args.rows.now c.args.exporter c.args.owner c.args.package)
      (subst P c.of-row-items.ensures.rows (adds-whole (gives c.args.exporter) rows c.loop-row.row-index c.loop-row-test.false c.loop-row.invariant));
}
