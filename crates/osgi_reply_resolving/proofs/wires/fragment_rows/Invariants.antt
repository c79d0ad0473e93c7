-- The rows so far are those of the fragments so far.
use Rattle.std.proofs.Common.{◌≡◌, ◌++◌, drop, map}
use Rattle.std.specs.Prelude.{Some}
use Rattle.osgi_ops.specs.WireRows.{fragment_row}
use Rattle.osgi_reply_resolving.proofs.wires.fragment_rows.Given as goal

abbrev pub invariant-loop-fragment : goal.invariant-loop-fragment
invariant-loop-fragment l = map Some l.rows ++ map (fragment_row l.wirings.world.known) (drop l.fragment-index l.fragments) ≡ map (fragment_row l.wirings.world.known) l.fragments
