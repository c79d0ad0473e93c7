-- The services of the places that were passed over stand before those of the places that are left, and may all be refused.
use Rattle.std.proofs.Common.{◌≡◌, ◌++◌, List}
use Rattle.std.specs.Prelude.{false, All}
use Rattle.osgi_ops.specs.declared.service.Service.{Service}
use Rattle.osgi_registry.specs.computed.LiveSlots.{services_at}
use Rattle.osgi_registry.proofs.service_test.first_passing.Given as goal

abbrev pub invariant-loop-place : goal.invariant-loop-place
invariant-loop-place g l =
    (before : List Service) × (services_at l.fn.live.rows.now.entries l.fn.places.keys ≡ before ++ services_at l.fn.live.rows.now.entries l.place-iterator) × All (λ s. g.T.ServiceTest.answers l.fn.test s false) before
