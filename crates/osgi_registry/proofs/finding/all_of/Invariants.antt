-- The services so far, and those of the places that are left.
use Rattle.std.proofs.Common.{◌≡◌, ◌++◌, map}
use Rattle.osgi_registry_index.specs.Places.{service_at}
use Rattle.osgi_registry.proofs.finding.all_of.Given as goal

abbrev pub invariant-loop-place : goal.invariant-loop-place
invariant-loop-place l = l.all ++ map service_at l.place-iterator ≡ map service_at l.fn.places.keys
