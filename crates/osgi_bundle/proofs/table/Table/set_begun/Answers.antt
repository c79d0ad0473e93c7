-- The row of the bundle has the state and the tag, and all that is true of the fields stays so.
use Rattle.std.proofs.Common.{◌≡◌, ap, List, refl, set, subst, sym, ◌∙◌}
use Rattle.std.specs.Prelude.{None, Some, slice_get}
use Rattle.osgi_bundle.specs.Rows.{row_at, TableRows, with_begun}
use Rattle.osgi_bundle.specs.computed.Kept.{IsKept}
use Rattle.osgi_bundle.specs.declared.kept.BundleKept.{BundleKept}
use Rattle.osgi_bundle.proofs.Finding.{ids_rise}
use Rattle.osgi_bundle.proofs.States.{kept_with_changed, leaves_begun, set_found}
use Rattle.osgi_bundle.proofs.table.Table.set_begun.Goals as goal

written : (c : goal.After-self-1) → set c.self.inside.rows.items c.in-Some.place (record c.index_mut-row.result.now { state = c.args.state; by = Some c.args.tag }) ≡ with_begun c.args.bundle c.args.state c.args.tag c.self.inside.rows.items
written c =
    let rows = c.self.inside.rows.items in
    let at : slice_get rows c.in-Some.place ≡ row_at c.args.bundle rows = subst (λ (t : TableRows). slice_get t.rows c.in-Some.place ≡ row_at c.args.bundle t.rows) (sym c.self.view_is) c.in-Some.ensures.place in
    let live : ¬ (row_at c.args.bundle rows ≡ None) = subst (λ (t : TableRows). ¬ (row_at c.args.bundle t.rows ≡ None)) (sym c.self.view_is) c.requires.live in
    set_found c.args.bundle (λ (row : BundleKept). record row { state = c.args.state; by = Some c.args.tag }) rows c.in-Some.place c.index_mut-row.result.now _ (ids_rise rows c.self.invariant.in_order.rising) at live c.index_mut-row.ensures.value

pub invariant_of-self : goal.invariant_of-self
invariant_of-self c =
    subst (λ (rows : List BundleKept). IsKept (record { rows = rows; issued = c.self.inside.issued }) c.self.inside.directory) (sym (written c))
    (kept_with_changed c.args.bundle (λ (row : BundleKept). record row { state = c.args.state; by = Some c.args.tag }) (leaves_begun c.args.state c.args.tag) (record { rows = c.self.inside.rows.items; issued = c.self.inside.issued }) c.self.inside.directory
    (λ row changing. refl) c.self.invariant)

pub returns-clause-rows : goal.returns-clause-rows
returns-clause-rows c = written c ∙ ap (λ (t : TableRows). with_begun c.args.bundle c.args.state c.args.tag t.rows) c.self.view_is
