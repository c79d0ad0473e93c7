-- Nothing is given of a package for which the revision has a wire.
use Rattle.std.proofs.Common.{◌≡◌, ◌==◌, List, length, sym, ◌∙◌, ap}
use Rattle.osgi_space_rows.specs.Rows.{imports_for}
use Rattle.osgi_space_rows.specs.declared.rows.Import.{Import}
use Rattle.osgi_space_sources.specs.laws.Adding.{adds-nothing, adds-same}
use Rattle.osgi_space_sources.proofs.Lengths.{empty-true, empty-false}
use Rattle.osgi_space_sources.proofs.Rows.{no_import, some_import}
use Rattle.osgi_space_sources.proofs.space.add_unless_imported.Goals as goal

pub returns-in_ok-add_exported : goal.returns-in_ok-add_exported
returns-in_ok-add_exported c =
    let R = c.args.rows.now in
    let rows = imports_for R c.args.revision c.args.package in
    let is : c.is_empty.result ≡ (length rows == 0) = c.is_empty.ensures ∙ ap (λ (xs : List Import). length xs == 0) c.of.ensures.rows in
    let none = no_import R c.args.revision c.args.package (empty-true rows (sym is ∙ c.if-is_empty.true)) in
    record { added = adds-same (λ g. (λ direct. (none, direct), λ both. both.1)) c.in_ok-add_exported.ensures.added }

pub returns-else-is_empty : goal.returns-else-is_empty
returns-else-is_empty c =
    let R = c.args.rows.now in
    let rows = imports_for R c.args.revision c.args.package in
    let is : c.is_empty.result ≡ (length rows == 0) = c.is_empty.ensures ∙ ap (λ (xs : List Import). length xs == 0) c.of.ensures.rows in
    record { added = adds-nothing _ c.args.givens.now.items (λ g both. both.0 (some_import R c.args.revision c.args.package (empty-false rows (sym is ∙ c.if-is_empty.false)))) }
