-- What was added so far, and then the services that are left, is all.
use Rattle.std.proofs.Common.{◌≡◌, ◌++◌, drop, map}
use Rattle.osgi_sights.specs.Shown as shown
use Rattle.osgi_tables.specs.Changes.{leaving}
use Rattle.osgi_tables.proofs.happenings.add_leaving.Given as goal

abbrev pub invariant-loop-service : goal.invariant-loop-service
invariant-loop-service l = l.happened ++ map (λ s. shown.service 4 s.now) (drop l.service-index l.service-items) ≡ l.initial.happened ++ leaving l.fn.bundle l.registry
