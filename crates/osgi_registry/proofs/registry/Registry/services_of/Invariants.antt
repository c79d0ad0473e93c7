-- The services so far.
use Rattle.std.proofs.Common.{◌≡◌, map, take}
use Rattle.osgi_registry.specs.computed.Concerns.{live_among}
use Rattle.osgi_registry.proofs.registry.Registry.services_of.Given as goal

abbrev pub invariant-loop-id : goal.invariant-loop-id
invariant-loop-id l = map (λ s. s.now) l.services.items ≡ live_among l.self.rows (take l.id-index l.ids)
