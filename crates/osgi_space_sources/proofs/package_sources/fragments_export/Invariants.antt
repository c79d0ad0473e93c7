-- None of the fragments so far exports the package.
use Rattle.std.proofs.Common.{Any, take}
use Rattle.osgi_space_rows.specs.Rows.{OwnExport}
use Rattle.osgi_space_rows.specs.declared.rows.Attachment.{Attachment}
use Rattle.osgi_space_sources.proofs.package_sources.fragments_export.Given as goal

abbrev pub invariant-loop-row : goal.invariant-loop-row
invariant-loop-row l = ¬ Any (λ (row : Attachment). OwnExport l.rows row.fragment l.«package») (take l.row-index l.row-items)
