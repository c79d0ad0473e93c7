-- One bundle for each row.
use Rattle.std.proofs.Common.{◌≡◌, ℕ, List, subst}
use Rattle.std.proofs.lemmas.List.{get_or_default}
use Rattle.osgi_space_sources.specs.computed.Adds.{Adds}
use Rattle.osgi_space_sources.specs.laws.Adding.{Each, adds-start, adds-more, adds-whole, adds-same}
use Rattle.osgi_space_sources.proofs.Rows.{requires-each}
use Rattle.osgi_space_rows.specs.declared.rows.Required.{Required}
use Rattle.osgi_space_sources.proofs.bundles.add_required.Goals as goal

abbrev gives : Required → ℕ → Type 0
gives row t = t ≡ row.provider

pub loop-row-init : goal.loop-row-init
loop-row-init c = adds-start gives c.of-row-items.result.now c.args.found.now

pub loop-row-preserved : goal.loop-row-preserved
loop-row-preserved c = adds-more gives c.of-row-items.result.now c.loop-row.row-index _ c.loop-row-test.true (get_or_default c.of-row-items.result.now c.loop-row.row-index _ _ c.loop-row-test.true) c.loop-row.invariant c.in_ok-add.ensures.added

pub returns : goal.returns
returns c = record {
  added =
      let P : List Required → Type 0 = λ rows. Adds (Each gives rows) c.args.found.now c.loop-row.found in
      adds-same (requires-each c.args.rows.now c.args.revision)
      (subst P c.of-row-items.ensures.rows (adds-whole gives c.of-row-items.result.now c.loop-row.row-index c.loop-row-test.false c.loop-row.invariant));
}
