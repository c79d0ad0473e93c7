-- A bundle under the next id, and the history that the table then stands for.
use Rattle.std.proofs.Common.{◌≡◌, ◌≤◌, ◌++◌, ◌∷◌, [], ap, sym, subst, ◌∙◌}
use Rattle.std.specs.Prelude.{All, None}
use Rattle.osgi_bundle.specs.Rows.{bundle_number, TableRows}
use Rattle.osgi_bundle.specs.computed.Kept.{bundle_under, name_cmp, bundle_name}
use Rattle.osgi_bundle.specs.declared.kept.BundleKept.{BundleKept}
use Rattle.osgi_bundle.specs.laws.Standing.{stands_installed}
use Rattle.osgi_bundle.proofs.Finding.{free_name}
use Rattle.osgi_bundle.proofs.Made.{new_begun}
use Rattle.osgi_bundle.proofs.table.Table.insert.Goals as goal

pub add-requires : goal.add-requires
add-requires c = record {
  next = c.requires.next;
  named = c.in_ok-key.ensures.same;
  fresh =
      subst (λ k. bundle_under name_cmp bundle_name k c.args.self.now.rows ≡ None) (sym c.in_ok-key.ensures.same)
      (free_name c.args.made.name c.args.made.version c.args.self.now.rows c.requires.apart);
  begun = new_begun c.args.made c.requires.is_new;
}

pub returns-clause-stands : goal.returns-clause-stands
returns-clause-stands c = λ depot history world revision tag of fresh stands.
    let m = c.args.made in
    let given : All (λ row. bundle_number row ≤ c.args.self.now.issued) c.args.self.now.rows = subst (λ (t : TableRows). All (λ row. bundle_number row ≤ t.issued) t.rows) c.self.view_is c.self.invariant.in_order.issued in
    stands_installed depot history world revision c.args.self.now c.add.new.self tag m.location m.name m.version m.fragment m.row m.bundle of fresh given stands c.requires.next
    (c.in_ok-add.ensures.rows ∙ ap (λ (r : BundleKept). c.args.self.now.rows ++ r ∷ []) c.requires.is_new) c.in_ok-add.ensures.issued
