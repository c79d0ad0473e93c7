-- What is released in the end stays the same, and the services that are left are all that concern the bundle.
use Rattle.std.proofs.Common.{◌≡◌, drop}
use Rattle.osgi_registry.specs.computed.Concerns.{AreAmong}
use Rattle.osgi_registry.specs.Rows.{released}
use Rattle.osgi_registry.proofs.registry.Registry.let_go_all.Given as goal

abbrev pub invariant-loop-service : goal.invariant-loop-service
invariant-loop-service l =
    (released l.bundle l.self.rows ≡ released l.bundle l.initial.self.rows) × AreAmong l.bundle (drop l.service-index l.services) l.self.rows × (l.self.issued ≡ l.initial.self.issued)
