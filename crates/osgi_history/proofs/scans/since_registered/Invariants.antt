-- The entries so far have not registered it.
use Rattle.std.proofs.Common.{◌≡◌, ◌≤◌, drop}
use Rattle.osgi_base.specs.declared.ids.BundleId.{BundleId}
use Rattle.osgi_history.proofs.Front.{uses_after}
use Rattle.osgi_history.specs.computed.Scans.{uses_shared}
use Rattle.osgi_history.proofs.scans.since_registered.Given as goal

abbrev pub invariant-loop-place : goal.invariant-loop-place
invariant-loop-place l = record {
  left : (user : BundleId) → uses_shared user l.service l.entries ≡ uses_after user l.service l.earlier (drop l.place l.entries);
  few : l.earlier ≤ l.place;
}
