-- The ids so far, and those of the entries that are left after so many registrations.
use Rattle.std.proofs.Common.{◌≡◌, ◌≤◌, ◌++◌, drop, map}
use Rattle.osgi_history.proofs.Front.{live_after}
use Rattle.osgi_ops.specs.Services.{live_services}
use Rattle.osgi_history.proofs.scans.live.Given as goal

abbrev pub invariant-loop-place : goal.invariant-loop-place
invariant-loop-place l = record {
  so_far : l.ids ++ map (λ r. r.service) (live_after l.earlier (drop l.place l.entries)) ≡ map (λ r. r.service) (live_services l.entries);
  few : l.earlier ≤ l.place;
}
