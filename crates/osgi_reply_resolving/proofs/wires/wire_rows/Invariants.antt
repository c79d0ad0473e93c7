-- The rows so far are those of the wires so far.
use Rattle.std.proofs.Common.{◌≡◌, ◌++◌, drop, map}
use Rattle.std.specs.Prelude.{Some}
use Rattle.osgi_ops.specs.WireRows.{wire_row}
use Rattle.osgi_reply_resolving.proofs.wires.wire_rows.Given as goal

abbrev pub invariant-loop-wire : goal.invariant-loop-wire
invariant-loop-wire l = map Some l.rows ++ map (wire_row l.wirings.world.known) (drop l.wire-index l.wires) ≡ map (wire_row l.wirings.world.known) l.wires
