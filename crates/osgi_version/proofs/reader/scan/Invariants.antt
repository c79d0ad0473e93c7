-- What was read ran to the state.
use Rattle.std.proofs.Common.{◌≡◌, ◌≤◌, Some, take}
use Rattle.osgi_version.specs.computed.Run.{run, advance}
use Rattle.osgi_version.proofs.reader.scan.Given as goal

abbrev pub invariant-loop-at : goal.invariant-loop-at
invariant-loop-at g l = record { prefix : run (advance g.M.Reader.is_fine g.M.Reader.step l.strict) g.M.Reader.start (take l.at l.bytes) ≡ Some l.state; counted : g.M.Reader.held l.state ≤ l.at }
