-- Those so far that the bundle owns.
use Rattle.std.proofs.Common.{◌≡◌, filter, take}
use Rattle.osgi_registry.specs.computed.Concerns.{owns}
use Rattle.osgi_registry.proofs.registry.Registry.owned_among.Given as goal

abbrev pub invariant-loop-service : goal.invariant-loop-service
invariant-loop-service l = l.owned ≡ filter (owns l.bundle l.self.rows) (take l.service-index l.services)
