-- Whether the entries so far leave it live, and how many bundles they installed.
use Rattle.std.proofs.Common.{◌≡◌, ◌≤◌, length, take}
use Rattle.osgi_ops.specs.Bundles.{installed, live}
use Rattle.osgi_history.proofs.Lives.{any_is}
use Rattle.osgi_history.proofs.states.is_live.Given as goal

abbrev pub invariant-loop-entry : goal.invariant-loop-entry
invariant-loop-entry l = record {
  live : l.live ≡ any_is l.bundle (live (take l.entry-index l.entries));
  earlier : l.earlier ≡ length (installed (take l.entry-index l.entries));
  few : l.earlier ≤ l.entry-index;
}
