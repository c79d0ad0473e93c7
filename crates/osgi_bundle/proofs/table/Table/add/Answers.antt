-- The fields after the row is added.
use Rattle.std.proofs.Common.{◌≡◌, ◌+◌, ◌++◌, ◌∷◌, [], ap, sym, ◌∙◌, rules, subst}
use Rattle.std.specs.Prelude.{None}
use Rattle.osgi_bundle.specs.computed.Kept.{AddsFirst, bundle_under, IsKept, name_cmp, bundle_name}
use Rattle.osgi_bundle.specs.Rows.{TableRows}
use Rattle.osgi_bundle.proofs.Ordered.{kept_push}
use Rattle.osgi_bundle.proofs.table.Table.add.Goals as goal

pub invariant_of-self-2 : goal.invariant_of-self-2
invariant_of-self-2 c =
    let rows : c.push.new.self.items ≡ c.self.inside.rows.items ++ c.args.row ∷ [] = search rules in
    let old : TableRows = record { rows = c.self.inside.rows.items; issued = c.self.inside.issued } in
    let next : c.args.row.bundle.0 ≡ c.self.inside.issued + 1 = c.requires.next ∙ ap (λ t. t.issued + 1) (sym c.self.view_is) in
    let none : bundle_under name_cmp bundle_name (bundle_name c.args.row) old.rows ≡ None =
    subst (λ k. bundle_under name_cmp bundle_name k old.rows ≡ None) c.requires.named (ap (λ t. bundle_under name_cmp bundle_name c.args.key t.rows) c.self.view_is ∙ c.requires.fresh) in
    let names = subst (λ k. AddsFirst name_cmp c.self.inside.directory.names c.add.new.self.names k c.args.row.bundle) c.requires.named c.in_ok-add.ensures.names in
    subst (λ (t : TableRows). IsKept t c.add.new.self) (λ i. record { rows = sym rows i; issued = sym next i })
    (kept_push old c.args.row c.self.inside.directory c.add.new.self c.self.invariant next none c.requires.begun c.in_ok-add.ensures.locations names)
