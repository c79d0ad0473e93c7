-- The first rows among the choices that are done.
use Rattle.std.proofs.Common.{◌-◌, drop, length}
use Rattle.osgi_candidate_rows.specs.computed.Index.{AreFirstRows}
use Rattle.osgi_candidate_rows.proofs.index.first_rows.Given as goal

abbrev pub invariant-loop-done : goal.invariant-loop-done
invariant-loop-done l = AreFirstRows l.choices (drop (length l.choices - l.done) l.choices) l.rows
