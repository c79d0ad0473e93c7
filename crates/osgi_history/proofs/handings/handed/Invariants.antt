-- What was handed so far, and then what the entries that are left hand, is all.
use Rattle.std.proofs.Common.{◌≡◌, ◌++◌, drop}
use Rattle.osgi_ops.specs.Listening.{handed_in}
use Rattle.osgi_history.proofs.handings.handed.Given as goal

abbrev pub invariant-loop-entry : goal.invariant-loop-entry
invariant-loop-entry l = l.events ++ handed_in l.fn.listener (drop l.entry-index l.entries) ≡ handed_in l.fn.listener l.entries
