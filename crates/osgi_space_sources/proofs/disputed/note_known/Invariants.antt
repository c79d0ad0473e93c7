-- The revisions so far that are ends were noted for their exports, and what was noted before still is.
use Rattle.std.proofs.Common.{ℕ, take}
use Rattle.osgi_world.specs.Lists.{In}
use Rattle.osgi_world.specs.declared.world.Known.{Known}
use Rattle.osgi_space_sources.specs.computed.Disputes.{HasSameEnds, HoldsAll, IsNotedEnd, IsNoted}
use Rattle.osgi_space_rows.specs.Rows.{OwnExport}
use Rattle.osgi_space_sources.proofs.disputed.note_known.Given as goal

abbrev pub invariant-loop-each : goal.invariant-loop-each
invariant-loop-each l = record {
  noted : (k : Known) (p : ℕ) → In k (take l.each-index l.known) → IsNotedEnd l.fn.possible.disputed k.id.0 → OwnExport l.rows k.id.0 p → IsNoted l.possible p k.id.0;
  kept : HoldsAll l.fn.possible l.possible;
  ends : HasSameEnds l.fn.possible l.possible;
}
