-- One bundle for each row with reexport.
use Rattle.std.proofs.Common.{◌≡◌, ℕ, List, subst, IsTrue}
use Rattle.std.proofs.lemmas.List.{get_or_default}
use Rattle.osgi_space_sources.specs.computed.Adds.{Adds}
use Rattle.osgi_space_sources.specs.laws.Adding.{Each, adds-more, adds-whole, adds-same, adds-nothing}
use Rattle.osgi_space_sources.proofs.Rows.{reexports-each}
use Rattle.osgi_space_rows.specs.declared.rows.Required.{Required}
use Rattle.osgi_space_sources.proofs.bundles.add_reexported.Goals as goal
use Rattle.osgi_space_sources.proofs.bundles.add_reexported.Goals.{then-row+in_ok-add, else-row}

abbrev gives : Required → ℕ → Type 0
gives row t = IsTrue row.reexport × (t ≡ row.provider)

pub loop-row-preserved : goal.loop-row-preserved
loop-row-preserved c =
    let rows = c.of-row-items.result.now in
    let at = get_or_default rows c.loop-row.row-index _ _ c.loop-row-test.true in
    elim c.if-row.branch [
      | then-row+in_ok-add w ↦ rw w.found-is (adds-more gives rows c.loop-row.row-index _ c.loop-row-test.true at c.loop-row.invariant (adds-same (λ t. (λ e. (w.if-row.true, e), λ both. both.1)) w.in_ok-add.ensures.added))
      | else-row w ↦ rw w.found-is (adds-more gives rows c.loop-row.row-index _ c.loop-row-test.true at c.loop-row.invariant (adds-nothing _ c.loop-row.found (λ t both. let yes = both.0 in let no = w.if-row.false in cc)))
    ]

pub returns : goal.returns
returns c = record {
  added =
      let P : List Required → Type 0 = λ rows. Adds (Each gives rows) c.args.found.now c.loop-row.found in
      adds-same (reexports-each c.args.rows.now c.args.bundle)
      (subst P c.of-row-items.ensures.rows (adds-whole gives c.of-row-items.result.now c.loop-row.row-index c.loop-row-test.false c.loop-row.invariant));
}
