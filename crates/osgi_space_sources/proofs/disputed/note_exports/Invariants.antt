-- The revision was noted for its own exports, and for those of the fragments so far; what was noted before still is.
use Rattle.std.proofs.Common.{ℕ, All, take}
use Rattle.osgi_space_sources.specs.computed.Disputes.{HasSameEnds, HoldsAll, IsNoted}
use Rattle.osgi_space_rows.specs.Rows.{OwnExport}
use Rattle.osgi_space_rows.specs.declared.rows.Attachment.{Attachment}
use Rattle.osgi_space_sources.proofs.disputed.note_exports.Given as goal

abbrev pub invariant-loop-row : goal.invariant-loop-row
invariant-loop-row l = record {
  own : (p : ℕ) → OwnExport l.rows l.revision p → IsNoted l.possible p l.revision;
  noted : All (λ (row : Attachment). (p : ℕ) → OwnExport l.rows row.fragment p → IsNoted l.possible p l.revision) (take l.row-index l.row-items);
  kept : HoldsAll l.fn.possible l.possible;
  ends : HasSameEnds l.fn.possible l.possible;
}
