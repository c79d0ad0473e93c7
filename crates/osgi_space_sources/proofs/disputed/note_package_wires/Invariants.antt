-- The wires so far were noted with their ends, and what was noted before still is.
use Rattle.std.proofs.Common.{All, take}
use Rattle.osgi_space_sources.specs.computed.Disputes.{NotesMore, IsNotedEnd, IsNoted}
use Rattle.osgi_space_rows.specs.declared.rows.Import.{Import}
use Rattle.osgi_space_sources.proofs.disputed.note_package_wires.Given as goal

abbrev pub invariant-loop-row : goal.invariant-loop-row
invariant-loop-row l = record {
  noted : All (λ (row : Import). IsNoted l.possible row.imported row.provider × IsNotedEnd l.possible.disputed row.revision × IsNotedEnd l.possible.disputed row.provider) (take l.row-index l.imports);
  extends : NotesMore l.rows l.fn.possible l.possible;
}
