-- The list so far, and then the numbers that are left, are all.
use Rattle.std.proofs.Common.{◌≡◌, ◌++◌, map}
use Rattle.osgi_base.specs.declared.ids.ServiceId.{ServiceId}
use Rattle.osgi_registry_index.proofs.bundle_services.listed.Given as goal

abbrev pub invariant-loop-service : goal.invariant-loop-service
invariant-loop-service l = map (λ (s : ServiceId). s.0) l.list ++ l.service-iterator ≡ l.services.keys
