-- The wirings with the steps that are left.
use Rattle.std.proofs.Common.{◌≡◌, ◌+◌, length}
use Rattle.osgi_uses.proofs.spaces.Spaces.into_rows.Given as goal

abbrev pub invariant-loop : goal.invariant-loop
invariant-loop l = record {
  known : l.rest.known ≡ l.fn.self.known;
  wirings : l.rest.wirings ≡ l.fn.self.wirings;
  left : length l.rest.steps + l.counter ≡ l.end;
}
