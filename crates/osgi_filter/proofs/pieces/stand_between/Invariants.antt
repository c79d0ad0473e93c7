-- The pieces stand in the text where those that are left stand in what is left of it.
use Rattle.std.proofs.Common.{◌≤◌, drop, length}
use Rattle.std.specs.Prelude.{◌↔◌}
use Rattle.osgi_filter.specs.computed.Between.{Between}
use Rattle.osgi_filter.proofs.pieces.stand_between.Given as goal

abbrev pub invariant-loop-piece : goal.invariant-loop-piece
invariant-loop-piece l = record { same : Between l.pieces l.text ↔ Between (drop l.piece-index l.pieces) l.rest; within : length l.rest ≤ length l.text }
