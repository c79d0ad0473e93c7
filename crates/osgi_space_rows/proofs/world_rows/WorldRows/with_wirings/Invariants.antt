-- The wirings so far are added.
use Rattle.std.proofs.Common.{take}
use Rattle.osgi_space_rows.specs.Worlds.{AddsWirings}
use Rattle.osgi_space_rows.proofs.world_rows.WorldRows.with_wirings.Given as goal

abbrev pub invariant-loop-wiring : goal.invariant-loop-wiring
invariant-loop-wiring l = AddsWirings l.initial.made l.made (take l.wiring-index l.wirings)
