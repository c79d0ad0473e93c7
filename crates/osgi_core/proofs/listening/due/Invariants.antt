-- The machine stands behind the entries so far, and the events are those that the listener saw of them.
use Rattle.std.proofs.Common.{drop}
use Rattle.osgi_core.proofs.Replaying.{IsDueSoFar}
use Rattle.osgi_ops.specs.Settings.{setting_of}
use Rattle.osgi_core.proofs.listening.due.Given as goal

abbrev pub invariant-loop-entry : goal.invariant-loop-entry
invariant-loop-entry l = IsDueSoFar (setting_of l.fn.limits l.fn.depot) l.entries (drop l.entry-index l.entries) l.fn.listener l.machine l.events
