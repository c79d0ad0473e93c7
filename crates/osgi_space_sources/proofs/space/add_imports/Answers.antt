-- One source for each wire.
use Rattle.std.proofs.Common.{◌≡◌, ◌↔◌, ℕ, List, sym, subst, refl}
use Rattle.std.proofs.lemmas.List.{get_or_default}
use Rattle.osgi_space_sources.specs.computed.Adds.{Adds}
use Rattle.osgi_space_sources.specs.computed.Givens.{IsWired}
use Rattle.osgi_space_sources.specs.declared.given.Given.{Given}
use Rattle.osgi_space_sources.specs.laws.Adding.{Each, adds-more, adds-whole, adds-same, adds-push}
use Rattle.osgi_space_sources.proofs.Rows.{some-imported}
use Rattle.osgi_space_rows.specs.Rows.{RowLists, Imports, imports_of}
use Rattle.osgi_space_rows.specs.declared.rows.Import.{Import}
use Rattle.osgi_space_sources.proofs.space.add_imports.Goals as goal

abbrev gives : Import → Given → Type 0
gives row g = g ≡ record { «package» = row.imported; source = row.provider }

pub loop-row-preserved : goal.loop-row-preserved
loop-row-preserved c =
    let rows = c.of_revision-row-items.result.now in
    let at = get_or_default rows c.loop-row.row-index _ _ c.loop-row-test.true in
    rw c.in_ok-push.ensures.items (adds-more gives rows c.loop-row.row-index _ c.loop-row-test.true at c.loop-row.invariant (adds-push c.loop-row.givens.items _))

wired-each : (R : RowLists) (r : ℕ) (g : Given) → Each gives (imports_of R r) g ↔ IsWired R r g
wired-each R r g =
    let some = some-imported R (λ p x. g ≡ record { «package» = p; source = x }) r in (
      λ any. let s = some.0 any in let P : Given → Type 0 = λ h. Imports R r h.package h.source in subst P (sym s.3) s.2,
      λ at. some.1 (g.package, g.source, at, refl),
    )

pub returns : goal.returns
returns c =
    let rows = c.of_revision-row-items.result.now in
    let P : List Import → Type 0 = λ xs. Adds (Each gives xs) c.args.givens.now.items c.loop-row.givens.items in
    record {
      added = adds-same (wired-each c.args.rows.now c.args.revision)
          (subst P c.of_revision-row-items.ensures.rows (adds-whole gives rows c.loop-row.row-index c.loop-row-test.false c.loop-row.invariant));
    }
