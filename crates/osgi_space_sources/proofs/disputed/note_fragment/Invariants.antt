-- The host was noted for the exports so far, and what was noted before still is.
use Rattle.std.proofs.Common.{All, take}
use Rattle.osgi_space_sources.specs.computed.Disputes.{HasSameEnds, HoldsAll, IsNoted}
use Rattle.osgi_space_rows.specs.declared.rows.Export.{Export}
use Rattle.osgi_space_sources.proofs.disputed.note_fragment.Given as goal

abbrev pub invariant-loop-row : goal.invariant-loop-row
invariant-loop-row l = record {
  noted : All (λ (row : Export). IsNoted l.possible row.exported l.host) (take l.row-index l.row-items);
  kept : HoldsAll l.fn.possible l.possible;
  ends : HasSameEnds l.fn.possible l.possible;
}
