-- The rows so far, and then those of the services that are left, are all.
use Rattle.std.proofs.Common.{◌≡◌, ◌++◌, map}
use Rattle.osgi_ops.specs.rows.Lists.{service_row}
use Rattle.osgi_registry.specs.Rows.{services_in}
use Rattle.osgi_reply_services.proofs.services.rows.Given as goal

abbrev pub invariant-loop-service : goal.invariant-loop-service
invariant-loop-service l = l.rows ++ map service_row l.service-iterator ≡ map service_row (services_in l.registry.rows)
