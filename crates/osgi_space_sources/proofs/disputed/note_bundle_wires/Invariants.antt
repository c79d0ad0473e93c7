-- The ends of the wires so far were noted, and what was noted before still is.
use Rattle.std.proofs.Common.{All, take}
use Rattle.osgi_space_sources.specs.computed.Disputes.{NotesMore, IsNotedEnd}
use Rattle.osgi_space_rows.specs.declared.rows.Required.{Required}
use Rattle.osgi_space_sources.proofs.disputed.note_bundle_wires.Given as goal

abbrev pub invariant-loop-row : goal.invariant-loop-row
invariant-loop-row l = record {
  noted : All (λ (row : Required). IsNotedEnd l.possible.disputed row.revision × IsNotedEnd l.possible.disputed row.provider) (take l.row-index l.required);
  extends : NotesMore l.rows l.fn.possible l.possible;
}
