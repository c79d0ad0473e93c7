-- The uses of the exporter's own exports, and of its fragments'.
use Rattle.std.proofs.Common.{◌↔◌, ◌⊎◌, inl, inr, ℕ, List, refl, subst}
use Rattle.std.proofs.lemmas.List.{get_or_default}
use Rattle.osgi_space_sources.specs.computed.Adds.{Adds}
use Rattle.osgi_space_sources.specs.computed.Pairs.{IsOwnUse, IsUse}
use Rattle.osgi_space_sources.specs.declared.given.Given.{Given}
use Rattle.osgi_space_sources.specs.laws.Adding.{Each, adds-more, adds-whole, adds-same, adds-then}
use Rattle.osgi_space_sources.proofs.Rows.{some-attached}
use Rattle.osgi_space_rows.specs.Rows.{RowLists, OwnUse, attached_to}
use Rattle.osgi_space_rows.specs.declared.rows.Attachment.{Attachment}
use Rattle.osgi_space_sources.proofs.constraints.add_uses.Goals as goal

abbrev gives : RowLists → ℕ → ℕ → Attachment → Given → Type 0
gives R e p row g = IsOwnUse R e row.fragment p g

pub loop-row-preserved : goal.loop-row-preserved
loop-row-preserved c =
    let rows = c.of-row-items.result.now in
    let at = get_or_default rows c.loop-row.row-index _ _ c.loop-row-test.true in
    adds-more (gives c.args.rows.now c.args.exporter c.args.package) rows c.loop-row.row-index _ c.loop-row-test.true at c.loop-row.invariant c.in_ok-add_own_uses-2.ensures.added

owners : (R : RowLists) (e p : ℕ) (g : Given) → (IsOwnUse R e e p g ⊎ Each (gives R e p) (attached_to R e) g) ↔ IsUse R e p g
owners R e p g =
    let some = some-attached R (λ f. IsOwnUse R e f p g) e in (
      λ either. elim either [
        | inl own ↦ (own.0, (e, inl refl, own.1))
        | inr any ↦ let s = some.0 any in (s.2.0, (s.0, inr s.1, s.2.1))
      ],
      λ (same, uses). elim uses.1 [
        | inl own ↦ inl (same, subst (λ o. OwnUse R o p g.package) own uses.2)
        | inr attached ↦ inr (some.1 (uses.0, attached, (same, uses.2)))
      ],
    )

pub returns : goal.returns
returns c = record {
  added =
      let R = c.args.rows.now in
      let rows = c.of-row-items.result.now in
      let P : List Attachment → Type 0 = λ xs. Adds (Each (gives R c.args.exporter c.args.package) xs) c.add_own_uses.new.found c.loop-row.found in
      adds-same (owners R c.args.exporter c.args.package)
      (adds-then c.in_ok-add_own_uses.ensures.added (subst P c.of-row-items.ensures.rows (adds-whole (gives R c.args.exporter c.args.package) rows c.loop-row.row-index c.loop-row-test.false c.loop-row.invariant)));
}
