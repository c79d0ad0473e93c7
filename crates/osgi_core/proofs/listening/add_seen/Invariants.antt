-- What was added so far, and then what the listener sees of the sights that are left, is all.
use Rattle.std.proofs.Common.{◌≡◌, ◌++◌, drop, map}
use Rattle.osgi_listeners.specs.Sights.{sights_by, sights_of}
use Rattle.osgi_ops.specs.Moments.{Sight}
use Rattle.osgi_core.proofs.listening.add_seen.Given as goal

abbrev pub invariant-loop-sight : goal.invariant-loop-sight
invariant-loop-sight l =
    l.events ++ map (λ (s : Sight). s.event) (sights_by l.fn.listener (sights_of (drop l.sight-index l.sights))) ≡ l.fn.events ++ map (λ (s : Sight). s.event) (sights_by l.fn.listener (sights_of l.sights))
