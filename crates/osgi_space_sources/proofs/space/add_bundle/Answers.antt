-- What the bundle gives of its own exports and of its fragments'.
use Rattle.std.proofs.Common.{◌↔◌, ◌⊎◌, inl, inr, ℕ, List, sym, subst}
use Rattle.std.proofs.lemmas.List.{get_or_default}
use Rattle.osgi_space_sources.specs.computed.Adds.{Adds}
use Rattle.osgi_space_sources.specs.computed.Givens.{IsDirect, IsGivenBy, IsGivenByOwner, IsGivenOf}
use Rattle.osgi_space_sources.specs.computed.RowSources.{HasExport}
use Rattle.osgi_space_sources.specs.declared.given.Given.{Given}
use Rattle.osgi_space_sources.specs.laws.Adding.{Each, adds-more, adds-whole, adds-same, adds-then}
use Rattle.osgi_space_sources.proofs.Rows.{attached-at, some-attached}
use Rattle.osgi_space_rows.specs.Rows.{RowLists, OwnExport, attached_to}
use Rattle.osgi_space_rows.specs.declared.rows.Attachment.{Attachment}
use Rattle.osgi_space_sources.proofs.space.add_bundle.Goals as goal

abbrev gives : RowLists → ℕ → ℕ → Attachment → Given → Type 0
gives R r b row g = IsGivenByOwner R r b row.fragment g

pub add_owner-requires-in-loop-row : goal.add_owner-requires-in-loop-row
add_owner-requires-in-loop-row c =
    let rows = c.of-row-items.result.now in
    let at = get_or_default rows c.loop-row.row-index _ _ c.loop-row-test.true in
    record { owns = inr (attached-at c.args.rows.now c.args.bundle rows c.loop-row.row-index _ c.of-row-items.ensures.rows c.loop-row-test.true at) }

pub loop-row-preserved : goal.loop-row-preserved
loop-row-preserved c =
    let rows = c.of-row-items.result.now in
    let at = get_or_default rows c.loop-row.row-index _ _ c.loop-row-test.true in
    adds-more (gives c.args.rows.now c.args.revision c.args.bundle) rows c.loop-row.row-index _ c.loop-row-test.true at c.loop-row.invariant c.in_ok-add_owner-2.ensures.added

exported : (R : RowLists) (b : ℕ) (g : Given) → IsDirect R b g.package g → HasExport R b g.package
exported R b g (named, inl w) = w.2
exported R b g (named, inr w) = w.1.0

by-owner : (R : RowLists) (r b o : ℕ) (g : Given) → IsGivenByOwner R r b o g ↔ (OwnExport R o g.package × IsGivenOf R r b g.package g)
by-owner R r b o g = (
  λ (p, own, given). let P : ℕ → Type 0 = λ q. OwnExport R o q × IsGivenOf R r b q g in subst P (sym given.1.0) (own, given),
  λ (own, given). (g.package, own, given),
)

owners : (R : RowLists) (r b : ℕ) (g : Given) → (IsGivenByOwner R r b b g ⊎ Each (gives R r b) (attached_to R b) g) ↔ IsGivenBy R r b g
owners R r b g =
    let some = some-attached R (λ f. IsGivenByOwner R r b f g) b in (
      λ either. elim either [
        | inl own ↦ ((by-owner R r b b g).0 own).1
        | inr any ↦ let s = some.0 any in ((by-owner R r b s.0 g).0 s.2).1
      ],
      λ given. let has = exported R b g given.1 in
          elim has.1 [
            | inl e ↦ inl ((by-owner R r b b g).1 (subst (λ o. OwnExport R o g.package) e has.2, given))
            | inr attached ↦ inr (some.1 (has.0, attached, (by-owner R r b has.0 g).1 (has.2, given)))
          ],
    )

pub returns : goal.returns
returns c =
    let R = c.args.rows.now in
    let rows = c.of-row-items.result.now in
    let P : List Attachment → Type 0 = λ xs. Adds (Each (gives R c.args.revision c.args.bundle) xs) c.add_owner.new.givens.items c.loop-row.givens.items in
    record {
      added = adds-same (owners R c.args.revision c.args.bundle)
          (adds-then c.in_ok-add_owner.ensures.added (subst P c.of-row-items.ensures.rows (adds-whole (gives R c.args.revision c.args.bundle) rows c.loop-row.row-index c.loop-row-test.false c.loop-row.invariant)));
    }
