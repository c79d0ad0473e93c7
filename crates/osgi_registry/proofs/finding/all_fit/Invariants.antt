-- The services so far, and those of the places that are left.
use Rattle.std.proofs.Common.{◌≡◌, ◌++◌}
use Rattle.std.specs.Prelude.{filter, Some}
use Rattle.osgi_ops.specs.Classes.{ids_of}
use Rattle.osgi_registry.specs.computed.Finding as spec
use Rattle.osgi_registry.specs.computed.LiveSlots.{services_at}
use Rattle.osgi_registry.proofs.finding.all_fit.Given as goal

abbrev pub invariant-loop-place : goal.invariant-loop-place
invariant-loop-place l =
    l.all ++ ids_of (filter (spec.does_fit (Some l.fn.asked)) (services_at l.fn.live.rows.now.entries l.place-iterator)) ≡ ids_of (filter (spec.does_fit (Some l.fn.asked)) (services_at l.fn.live.rows.now.entries l.fn.places.keys))
