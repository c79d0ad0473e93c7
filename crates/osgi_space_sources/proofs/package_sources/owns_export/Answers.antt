-- There is an export where its look-up is not empty.
use Rattle.std.proofs.Common.{◌≡◌, ◌==◌, List, length, ◌∙◌, ap}
use Rattle.osgi_space_rows.specs.Rows.{exports_for}
use Rattle.osgi_space_rows.specs.declared.rows.Export.{Export}
use Rattle.osgi_space_sources.proofs.Lengths.{not_empty, some_item}
use Rattle.osgi_space_sources.proofs.Rows.{has_export, no_export}
use Rattle.osgi_space_sources.proofs.package_sources.owns_export.Goals as goal

pub returns : goal.returns
returns c =
    let R = c.args.rows.now in
    let rows = exports_for R c.args.owner c.args.package in
    let is : c.is_empty.result ≡ (length rows == 0) = c.is_empty.ensures ∙ ap (λ (xs : List Export). length xs == 0) c.of.ensures.rows in
    record {
      exports = (
        λ t. has_export R c.args.owner c.args.package (not_empty rows c.is_empty.result is t),
        λ at. some_item rows c.is_empty.result is (λ none. no_export R c.args.owner c.args.package none at),
      );
    }
