-- What the entries so far put it into last.
use Rattle.std.proofs.Common.{◌≡◌, take}
use Rattle.osgi_ops.specs.Bundles.{phase}
use Rattle.osgi_history.specs.computed.States.{number_in}
use Rattle.osgi_history.proofs.states.put_last.Given as goal

abbrev pub invariant-loop-entry : goal.invariant-loop-entry
invariant-loop-entry l = l.state ≡ number_in (phase l.bundle (take l.entry-index l.entries))
