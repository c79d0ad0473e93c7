-- So many of the entries so far handed an event.
use Rattle.std.proofs.Common.{◌≡◌, ◌≤◌, take}
use Rattle.std.specs.Prelude.{count_by}
use Rattle.osgi_program.specs.computed.Ended.{hands}
use Rattle.osgi_program.proofs.framework.handings.Given as goal

abbrev pub invariant-loop-entry : goal.invariant-loop-entry
invariant-loop-entry l = record { counted : l.count ≡ count_by hands (take l.entry-index l.entries); few : l.count ≤ l.entry-index }
