-- The facts of the revisions so far are added.
use Rattle.std.proofs.Common.{take}
use Rattle.osgi_space_rows.specs.computed.Payloads.{Adds, KnownSays, OneSays}
use Rattle.osgi_space_rows.proofs.named.Named.add_known.Given as goal

abbrev pub invariant-loop-each : goal.invariant-loop-each
invariant-loop-each l = Adds l.initial.self l.self (OneSays (KnownSays l.known) (take l.each-index l.more))
