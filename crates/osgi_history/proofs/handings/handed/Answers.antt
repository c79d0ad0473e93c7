-- An entry hands the listener one event or none.
use Rattle.std.proofs.Common.{rules}
use Rattle.osgi_history.proofs.EventsHanded.{handed_more}
use Rattle.osgi_history.proofs.handings.handed.Goals as goal
use Rattle.osgi_history.proofs.handings.handed.Goals.{in-Some+in_ok-push, in_default}

pub loop-entry-preserved : goal.loop-entry-preserved
loop-entry-preserved c =
    handed_more c.args.listener c.args.entries.now c.loop-entry.entry-index c.entry-item.result c.loop-entry.events c.match-handed_by.events _ c.loop-entry-test.true c.entry-item.is
    (elim c.match-handed_by.branch [
      | in-Some+in_ok-push w ↦ search rules
      | in_default w ↦ search rules
    ])
    c.loop-entry.invariant
