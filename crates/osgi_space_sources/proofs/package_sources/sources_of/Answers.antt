-- The sources are the providers of wires for the package, or else what is given.
use Rattle.std.proofs.Common.{◌≡◌, ◌==◌, List, length, sym, ◌∙◌, ap, subst}
use Rattle.osgi_space_rows.specs.Rows.{imports_for}
use Rattle.osgi_space_rows.specs.declared.rows.Import.{Import}
use Rattle.osgi_space_sources.specs.computed.Adds.{Adds}
use Rattle.osgi_space_sources.specs.computed.Givens.{IsProvider}
use Rattle.osgi_space_sources.specs.laws.Adding.{adds-from, adds-same}
use Rattle.osgi_space_sources.proofs.Givers.{given-sources, imported-sources, provider-imported}
use Rattle.osgi_space_sources.proofs.Lengths.{empty-true, empty-false}
use Rattle.osgi_space_sources.proofs.Rows.{no_import, some_import}
use Rattle.osgi_space_sources.proofs.package_sources.sources_of.Goals as goal
use Rattle.osgi_space_sources.proofs.package_sources.sources_of.Goals.{then-is_empty+in_ok-add_given, else-is_empty+in_ok-add_imported}

pub returns : goal.returns
returns c =
    let R = c.args.rows.now in
    let r = c.args.revision in
    let p = c.args.package in
    let rows = imports_for R r p in
    let is : c.is_empty.result ≡ (length rows == 0) = c.is_empty.ensures ∙ ap (λ (xs : List Import). length xs == 0) c.of-imports.ensures.rows in
    record {
      sources = elim c.if-is_empty.branch [
        | then-is_empty+in_ok-add_given w ↦ rw w.givens-is (adds-from c.in_ok-givens.ensures.items
            (adds-same (λ g. given-sources R p r g (no_import R r p (empty-true rows (sym is ∙ w.if-is_empty.true)))) w.in_ok-add_given.ensures.added))
        | else-is_empty+in_ok-add_imported w ↦
            let wired : Adds (IsProvider rows p) c.in_ok-givens.givens.items w.add_imported.new.givens.items =
            subst (λ xs. Adds (IsProvider xs p) c.in_ok-givens.givens.items w.add_imported.new.givens.items) c.of-imports.ensures.rows w.in_ok-add_imported.ensures.added in
            let some = some_import R r p (empty-false rows (sym is ∙ w.if-is_empty.false)) in
            rw w.givens-is (adds-from c.in_ok-givens.ensures.items (adds-same (λ g. imported-sources R p r g some) (adds-same (provider-imported R r p) wired)))
      ];
    }
