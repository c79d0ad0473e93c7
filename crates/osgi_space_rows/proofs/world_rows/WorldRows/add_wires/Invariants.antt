-- The wires so far are added.
use Rattle.std.proofs.Common.{take, [], ◌∷◌}
use Rattle.osgi_space_rows.specs.Worlds.{AddsWirings}
use Rattle.osgi_space_rows.proofs.world_rows.WorldRows.add_wires.Given as goal

abbrev pub invariant-loop-wire : goal.invariant-loop-wire
invariant-loop-wire l = AddsWirings l.initial.self l.self (record { revision = l.revision; wires = take l.wire-index l.wires; fragments = [] } ∷ [])
