-- A bundle that imports elsewhere what it exports gives the import's provider, and any other itself.
use Rattle.std.proofs.Common.{◌≡◌, ◌↔◌, inl, inr, ℕ, ap, refl}
use Rattle.std.proofs.lemmas.Bool.{false≢true}
use Rattle.osgi_space_sources.specs.computed.Givens.{IsDirect, IsElsewhere}
use Rattle.osgi_space_sources.specs.computed.RowSources.{HasExport, ImportsElsewhere}
use Rattle.osgi_space_sources.specs.declared.given.Given.{Given}
use Rattle.osgi_space_sources.specs.laws.Adding.{adds-same, adds-push}
use Rattle.osgi_space_rows.specs.Rows.{RowLists}
use Rattle.osgi_space_sources.proofs.package_sources.add_exported.Goals as goal

elsewhere-direct : (R : RowLists) (b p : ℕ) → HasExport R b p → ImportsElsewhere R b p → (g : Given) → IsElsewhere R b p g ↔ IsDirect R b p g
elsewhere-direct R b p has elsewhere g = (
  λ (named, at, other). (named, inl (at, other, has)),
  λ (named, direct). elim direct [ inl w ↦ (named, w.0, w.1) | inr w ↦ absurd (w.1.1 elsewhere) ],
)

itself-direct : (R : RowLists) (b p : ℕ) → HasExport R b p → ¬ ImportsElsewhere R b p → (g : Given) → (g ≡ record { «package» = p; source = b }) ↔ IsDirect R b p g
itself-direct R b p has none g = (
  λ e. (ap (λ (h : Given). h.package) e, inr (ap (λ (h : Given). h.source) e, (has, none))),
  λ (named, direct). elim direct [ inl w ↦ absurd (none (g.source, w.0, w.1)) | inr w ↦ λ i. record { «package» = named i; source = w.0 i } ],
)

pub returns-in_ok-add_elsewhere : goal.returns-in_ok-add_elsewhere
returns-in_ok-add_elsewhere c = record {
  added = adds-same (elsewhere-direct c.args.rows.now c.args.bundle c.args.package c.requires.exported (c.if-imports_elsewhere.ensures.elsewhere.0 refl)) c.in_ok-add_elsewhere.ensures.added;
}

pub returns-in_ok-push : goal.returns-in_ok-push
returns-in_ok-push c = record {
  added = rw c.in_ok-push.ensures.items (adds-same (itself-direct c.args.rows.now c.args.bundle c.args.package c.requires.exported (λ e. false≢true (c.if-imports_elsewhere.ensures.elsewhere.1 e))) (adds-push c.args.givens.now.items _));
}
