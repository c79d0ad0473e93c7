-- The hosts were noted for all exports of the fragments so far, and what was noted before still is.
use Rattle.std.proofs.Common.{ℕ, All, take}
use Rattle.osgi_space_sources.specs.computed.Disputes.{HasSameEnds, HoldsAll, IsNoted}
use Rattle.osgi_space_rows.specs.Rows.{OwnExport}
use Rattle.osgi_space_rows.specs.declared.rows.Attachment.{Attachment}
use Rattle.osgi_space_sources.proofs.disputed.note_fragments.Given as goal

abbrev pub invariant-loop-row : goal.invariant-loop-row
invariant-loop-row l = record {
  noted : All (λ (row : Attachment). (p : ℕ) → OwnExport l.rows row.fragment p → IsNoted l.possible p row.host) (take l.row-index l.attached);
  kept : HoldsAll l.fn.possible l.possible;
  ends : HasSameEnds l.fn.possible l.possible;
}
