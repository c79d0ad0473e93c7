-- The fragments so far are added.
use Rattle.std.proofs.Common.{take, [], ◌∷◌}
use Rattle.osgi_space_rows.specs.Worlds.{AddsWirings}
use Rattle.osgi_space_rows.proofs.world_rows.WorldRows.add_fragments.Given as goal

abbrev pub invariant-loop-fragment : goal.invariant-loop-fragment
invariant-loop-fragment l = AddsWirings l.initial.self l.self (record { revision = l.host; wires = []; fragments = take l.fragment-index l.fragments } ∷ [])
