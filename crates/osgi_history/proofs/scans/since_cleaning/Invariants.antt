-- The last cleaning among the entries so far is before `start`, if there is one.
use Rattle.std.proofs.Common.{◌≡◌, ◌≤◌, drop, take}
use Rattle.osgi_ops.specs.Services.{since_cleaning}
use Rattle.osgi_history.proofs.scans.since_cleaning.Given as goal

abbrev pub invariant-loop-place : goal.invariant-loop-place
invariant-loop-place l = record {
  since : since_cleaning l.bundle (take l.place l.entries) ≡ drop l.start (take l.place l.entries);
  within : l.start ≤ l.place;
}
