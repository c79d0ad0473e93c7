-- The loop that waits leaves what the seat knows.
use Rattle.std.proofs.Common.{◌≡◌}
use Rattle.osgi_hall.proofs.hall.Hall.enter.Given as goal

abbrev pub invariant-loop : goal.invariant-loop
invariant-loop g l = (l.seat.table_id ≡ l.initial.seat.table_id) × (l.seat.id ≡ l.initial.seat.id) × (l.seat.me ≡ l.initial.seat.me)
