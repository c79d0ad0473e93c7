-- The facts of the capabilities so far are added.
use Rattle.std.proofs.Common.{take}
use Rattle.osgi_space_rows.specs.computed.Payloads.{Adds, OneSays, Says}
use Rattle.osgi_space_rows.proofs.named.Named.add_capabilities.Given as goal

abbrev pub invariant-loop-capability : goal.invariant-loop-capability
invariant-loop-capability l = Adds l.initial.self l.self (OneSays (Says l.owner) (take l.capability-index l.capabilities))
