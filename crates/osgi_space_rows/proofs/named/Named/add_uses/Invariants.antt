-- The uses so far are added.
use Rattle.std.proofs.Common.{ℕ, List, take}
use Rattle.osgi_space_rows.specs.Names.{HasNumber}
use Rattle.osgi_space_rows.specs.computed.Payloads.{Adds, Used}
use Rattle.osgi_space_rows.proofs.named.Named.add_uses.Given as goal

abbrev pub invariant-loop-used : goal.invariant-loop-used
invariant-loop-used l = (name : List ℕ) → HasNumber l.initial.self.names name l.exported → Adds l.initial.self l.self (Used l.owner name (take l.used-index l.uses))
